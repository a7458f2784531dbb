-- `panel::panel::Panel::play` meets its contract. The loop's invariant: what is still to be played, played, gives the whole.
use Rattle.std.proofs.Common.{◌≡◌, ◌+◌, ◌*◌, ◌≤◌, length, drop}
use Rattle.std.proofs.lemmas.List.Edits.{sets}
use Rattle.engine.specs.Timestep.{after}
use Rattle.panel.specs.Script.{played}
use Rattle.panel.specs.Code.Seen.{the_plan, model, Watches}
use Rattle.panel.proofs.script.Rounds.{left}
use Rattle.panel.proofs.panel.Panel.play.Given as goal

abbrev pub invariant-loop-i : goal.invariant-loop-i
invariant-loop-i l =
    record {
      watches : Watches l.self;
      loaded : l.self.loaded ≡ l.initial.self.loaded;
      times : l.self.run.time + left l.i l.script ≤ 10000000;
      run :
          after (the_plan l.initial.self) (left l.i l.script) (model l.self).run
          ≡ after (the_plan l.initial.self) (left 0 l.script) (model l.initial.self).run;
      long : length l.out ≡ length l.initial.out;
      rest :
          sets l.out (2 * l.i) (played l.self.loaded.plan.now (the_plan l.self) (drop l.i l.script) (model l.self))
          ≡ sets l.initial.out 0 (played l.initial.self.loaded.plan.now (the_plan l.initial.self) l.script (model l.initial.self));
    }

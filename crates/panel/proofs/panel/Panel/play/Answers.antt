-- `panel::panel::Panel::play` meets its contract. Assumes nothing.
use Rattle.std.proofs.Common.{◌≡◌, ◌+◌, get_or, length-set, sym, ap, ◌∙◌, arith}
use Rattle.engine.specs.Plan.{Plan}
use Rattle.engine.proofs.timestep.RunMoves.{after_add}
use Rattle.files.specs.declared.loaded.LoadedPlan.{LoadedPlan}
use Rattle.files.specs.Read.{read_plan}
use Rattle.panel.specs.Panel.{Panel}
use Rattle.panel.specs.Script.{asked, operation_of, answer_bytes}
use Rattle.panel.specs.Code.Seen.{the_plan, model}
use Rattle.panel.proofs.script.Rounds.{left, left_step}
use Rattle.panel.proofs.script.Steps.{gives_same, done_time, done_run, step_stored}
use Rattle.panel.proofs.panel.Panel.play.Goals as goal

pub loop-i-preserved : goal.loop-i-preserved
loop-i-preserved c =
    let x = c.loop-i.self in
    let i = c.loop-i.i in
    let script = c.args.script.now in
    let o = operation_of (get_or script i 0) in
    let kept = rw c.operation_of.ensures at c.operate.ensures.left in
    let pair = c.answer_bytes.ensures ∙ ap answer_bytes (sym (gives_same _ _ (rw c.operation_of.ensures at c.operate.ensures.answer))) in
    let first : Plan = the_plan c.args.self.now in
    let same : the_plan x ≡ first = ap (λ (r : LoadedPlan). read_plan r.plan.now) c.loop-i.invariant.loaded in
    record {
      watches = kept.watches;
      loaded = kept.loaded ∙ c.loop-i.invariant.loaded;
      times = omega (arith, ap (λ (s : Panel). s.run.time) kept.model, done_time (the_plan x) x.loaded.plan.now o (model x), c.loop-i.invariant.times, left_step i script c.loop-i-test.true);
      run = rw (ap (λ (s : Panel). s.run) kept.model ∙ done_run (the_plan x) x.loaded.plan.now o (model x), same, ← after_add first (asked o) (left (i + 1) script) (model x).run, ← left_step i script c.loop-i-test.true) c.loop-i.invariant.run;
      long = rw (length-set, length-set) c.loop-i.invariant.long;
      rest = rw (kept.loaded, kept.model) (step_stored (the_plan x) x.loaded.plan.now script c.loop-i.out (model x) i c.loop-i-test.true pair c.loop-i.invariant.rest);
    }

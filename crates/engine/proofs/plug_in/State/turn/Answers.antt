-- `engine::timestep::turn` meets its contract.
use Rattle.std.proofs.Common.{sym, ◌∙◌}
use Rattle.engine.proofs.timestep.LoopTurn.{went_last, went_through}
use Rattle.engine.proofs.plug_in.State.turn.Goals as goal

pub returns-then-is_ended : goal.returns-then-is_ended
returns-then-is_ended c =
    went_last c.args.rising.site.now c.args.time c.args.last c.args.self.now c.handle_due.new.self c.requires.before c.requires.going c.handle_due.ensures.handled (sym c.is_ended.ensures ∙ c.if-is_ended.true) c.handle_due.ensures.fit

pub returns : goal.returns
returns c =
    went_through c.args.rising.site.now c.args.time c.args.last c.args.self.now c.handle_due.new.self c.requires.before c.requires.going c.handle_due.ensures.handled (sym c.is_ended.ensures ∙ c.if-is_ended.false) c.spin.ensures

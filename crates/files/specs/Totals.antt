-- Rules. The result numbers of a run that stopped: units used, ended, and six counts.
use Rattle.std.specs.Prelude.{ℕ, Bool, List, length}
use Rattle.engine.specs.declared.events.Event.{Event}
use Rattle.engine.specs.declared.session.Session.{Session}
use Rattle.engine.specs.Demand.{yet_to_arrive, sessions_with}
use Rattle.plan.specs.declared.answer.Totals.{Totals}

-- yet to arrive and queued count vehicles; open, charged, reneged and balked count the sessions of outcome 0, 1, 2 and 3
abbrev pub counted : ℕ → Bool → List Event → List ℕ → List Session → Totals
counted used ended pending queue sessions =
    record {
      used = used;
      ended = ended;
      yet_to_arrive = yet_to_arrive pending;
      queued = length queue;
      still_open = sessions_with 0 sessions;
      charged = sessions_with 1 sessions;
      reneged = sessions_with 2 sessions;
      balked = sessions_with 3 sessions;
    }

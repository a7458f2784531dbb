-- A run by events knows no site limit; each round by steps shares one that is to be shared evenly.
use Rattle.std.proofs.Common.{◌≡◌, ℕ, refl}
use Rattle.power.specs.declared.power.Limit.TheVariants.{Shared}
use Rattle.power.proofs.even_shares.Evenly.{shared_evenly}
use Rattle.engine.specs.Plan.{Plan}
use Rattle.engine.specs.EvenShares.{EvenRounds, NoLimit}
use Rattle.engine.proofs.site.Alike.{alike_by_events}

pub no_limit : (p : Plan) → NoLimit p
no_limit p limit n = alike_by_events p limit p.queue_places (λ v queue. refl) n

pub even_rounds : (p : Plan) (watts : ℕ) → p.limit ≡ Shared watts → EvenRounds p watts
even_rounds p watts e n = shared_evenly p.curve _ p.limit watts e

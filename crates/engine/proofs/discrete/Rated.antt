-- Every charged session of a run by events is of a pair that fits, and says what charging takes at that pair's rated power.
use Rattle.std.proofs.Common.{◌≡◌, ℕ, true, refl, arith}
use Rattle.charger.specs.Lists.{All, none, also}
use Rattle.charger.proofs.Lists.{all_append, and_true}
use Rattle.engine.specs.declared.session.Outcome.TheVariants.{Reneged, Balked}
use Rattle.engine.specs.Plan.{Plan, fits}
use Rattle.engine.specs.SiteState.{free_at, start_charging, uncharged}
use Rattle.engine.specs.Discrete.{State, events, charged_session, run}
use Rattle.engine.specs.HotDay.{ChargedAtRating}
use Rattle.engine.proofs.discrete.Stepped.{Stepped, stepped, ended, charges, balks, waits, frees, passes, reneges, misses}
use Rattle.engine.proofs.discrete.EventLaws.{every_run}

module _ (p : Plan) where
  charged : (now v c : ℕ) → fits p v c ≡ true → ChargedAtRating p (charged_session p now v c)
  unfolding charged_session
  charged now v c h e = record { pair = h; duration = refl; peak = refl; energy = refl }

  balked : (v wait : ℕ) → ChargedAtRating p (uncharged v Balked wait)
  unfolding uncharged
  balked v wait e = let z : ◌≡◌ {A = ℕ} 0 1 = cc in absurd (omega arith)

  reneged : (v wait : ℕ) → ChargedAtRating p (uncharged v Reneged wait)
  unfolding uncharged
  reneged v wait e = let z : ◌≡◌ {A = ℕ} 0 1 = cc in absurd (omega arith)

  rated_stepped : (s : State) {t : State} → Stepped p s t → All (ChargedAtRating p) s.site.sessions → All (ChargedAtRating p) t.site.sessions
  unfolding start_charging
  rated_stepped s (ended l) k = k
  rated_stepped s (charges e es c l h a) k =
      all_append k (also (charged e.time e.vehicle c (and_true (free_at p (events p) s.site.places c) (fits p e.vehicle c) a).1) none)
  rated_stepped s (balks e es l h) k = all_append k (also (balked e.vehicle 0) none)
  rated_stepped s (waits e es l h) k = k
  rated_stepped s (frees e es l h) k = k
  rated_stepped s (passes e es q v r l h x a) k = all_append k (also (charged e.time v e.charger a) none)
  rated_stepped s (reneges e es q v r l h x a) k = all_append k (also (reneged v _) none)
  rated_stepped s (misses e es l h a) k = k

  pub charged_at_rating : (n : ℕ) → All (ChargedAtRating p) (run p n).site.sessions
  charged_at_rating = every_run p (λ s. All (ChargedAtRating p) s.site.sessions) none (λ n k. rated_stepped (run p n) (stepped p (run p n)) k)

-- What becomes of a site's state, for both engines, from what the code finds out.
use Rattle.std.proofs.Common.{◌≡◌, List, refl, ap}
use Rattle.engine.specs.declared.site.Simulation.{Simulation}
use Rattle.engine.specs.SiteState.{SiteState, Change, with_change}
use Rattle.engine.specs.Code.Simulation.{pending, site_state, Changed}

-- two states are equal part by part
pub same_site : {A : Type 0} {s t : SiteState A} → s.pending ≡ t.pending → s.queue ≡ t.queue → s.places ≡ t.places → s.sessions ≡ t.sessions → s ≡ t
same_site p q a x = λ i. record { pending = p i; queue = q i; places = a i; sessions = x i }

-- a vehicle that takes no charger: the queue that is left, and what was written, are the model's
pub changed_site : {A : Type 0} (places : List A) {change : Change} {s r : Simulation} → Changed change s r → site_state r places ≡ with_change change (site_state s places)
changed_site places b = same_site (ap pending b.events) b.queue refl b.sessions

-- The points of a block made a curve: the same points, each once, by rising SOC, from SOC 0 to SOC 1.
use Rattle.std.proofs.Common.{◌≡◌, ℕ, suc, ◌<◌, Bool, true, false, cond, T, List, [], ◌∷◌, ◌++◌, length, get_or, sym, refl, subst, arith}
use mathlib.Core.List.Permᴰ
use mathlib.Core.List.Permᴰ.{cons as kept}
use mathlib.Core.List.Permᴰ.{nil as none}
use mathlib.Core.List.Permᴰ.{swap as swapped}
use mathlib.Core.List.Permᴰ.{trans as then}
use mathlib.Core.List.{Permᴰ as Permutation}
use lib.Ieee.{Float, lt, le, eq, ne, fits}
use Rattle.curve.specs.F64.{ratio, clear}
use Rattle.curve.specs.Limits.{Soc, Held}
use Rattle.curve.specs.Curve.{origin, insert, sort_into, with_start, with_end, curve_of}
use Rattle.curve.specs.Code.Rising.{Above, Rises}
use Rattle.curve.specs.declared.points.Point.{Point}
use Rattle.curve.proofs.float.Limits.{tested}
use Rattle.curve.proofs.float.Compare.{equal, ne_back, below_of_ne, le_of_lt, le_of_not_lt, number, le_trans_clear}

-- ---- the same points, each once
insert_permutes : (p : Point) (ps : List Point) → Permutation (p ∷ ps) (insert p ps)
unfolding insert
insert_permutes p [] = Permᴰ.refl (p ∷ [])
insert_permutes p (q ∷ qs) = go (lt q.soc p.soc) (insert_permutes p qs) (insert_permutes q qs)
  where
    go : (b : Bool) → Permutation (p ∷ qs) (insert p qs) → Permutation (q ∷ qs) (insert q qs) → Permutation (p ∷ q ∷ qs) (cond b q p ∷ insert (cond b p q) qs)
    go true h k = then (swapped refl refl) (kept refl h)
    go false h k = kept refl k

sort_permutes : (done ps : List Point) → Permutation (ps ++ done) (sort_into done ps)
unfolding sort_into
sort_permutes done [] = Permᴰ.refl done
sort_permutes done (p ∷ ps) =
    then (Permᴰ.symm (Permᴰ.middle p ps done)) (then (Permᴰ.append_left ps (insert_permutes p done)) (sort_permutes (insert p done) ps))

pub sorted_permutes : (ps : List Point) → Permutation ps (sort_into [] ps)
sorted_permutes ps = then (Permᴰ.symm (Permᴰ.append-nil ps)) (sort_permutes [] ps)

-- ---- what holds of every point, and of every two
unfoldable pub Each : (Point → Type 0) → List Point → Type 0
Each P [] = Unit {0}
Each P (p ∷ ps) = P p × Each P ps

pub each_permuted : (P : Point → Type 0) {ps qs : List Point} → Permutation ps qs → Each P ps → Each P qs
unfolding Each
each_permuted P none h = h
each_permuted P (kept e d) h = (subst P e h.0, each_permuted P d h.1)
each_permuted P (swapped e f) h = (subst P f h.1.0, (subst P e h.0, h.1.1))
each_permuted P (then d e) h = each_permuted P e (each_permuted P d h)

pub each_of : (P : Point → Type 0) (ps : List Point) → ((i : ℕ) → i < length ps → P (get_or ps i origin)) → Each P ps
unfolding Each
each_of P [] h = tt
each_of P (p ∷ ps) h = (h 0 (omega arith), each_of P ps (λ i k. h (suc i) (omega arith)))

-- each SOC is one of a plan
abbrev pub Socs : List Point → Type 0
Socs ps = Each (λ p. Soc p.soc) ps

pub held_socs : (ps : List Point) → Held ps → Socs ps
unfolding Held Each
held_socs [] h = tt
held_socs (p ∷ ps) h = (h.0, held_socs ps h.2)

-- no two SOCs are equal
abbrev pub Other : Point → Point → Type 0
Other p q = T (ne p.soc q.soc)

unfoldable pub Different : List Point → Type 0
unfolding Each
Different [] = Unit {0}
Different (p ∷ ps) = Each (Other p) ps × Different ps

pub different_of : (ps : List Point) → ((i j : ℕ) → i < j → j < length ps → Other (get_or ps i origin) (get_or ps j origin)) → Different ps
unfolding Different
different_of [] h = tt
different_of (p ∷ ps) h = (each_of (Other p) ps (λ j k. h 0 (suc j) (omega arith) (omega arith)), different_of ps (λ i j k l. h (suc i) (suc j) (omega arith) (omega arith)))

different_permuted : {ps qs : List Point} → Permutation ps qs → Different ps → Different qs
unfolding Different Each
different_permuted none h = h
different_permuted (kept {a = p} {b = q} {l₂ = qs} e d) h = (subst (λ (r : Point). Each (Other r) qs) e (each_permuted (Other p) d h.0), different_permuted d h.1)
different_permuted (swapped {a = p} {b = q} {a' = p'} {b' = q'} {l = l} e f) h = (
  (subst (λ (r : Point). Other p' r) e (subst (λ (r : Point). Other r p) f (ne_back p.soc q.soc h.0.0)), subst (λ (r : Point). Each (Other r) l) f h.1.0),
  (subst (λ (r : Point). Each (Other r) l) e h.0.1, h.1.1),
)
different_permuted (then d e) h = different_permuted e (different_permuted d h)

-- ---- rising by SOC
lower_start : (s : Float) (q : Point) (ps : List Point) → T (clear s) → T (clear q.soc) → Socs ps → T (le s q.soc) → Above le q.soc ps → Above le s ps
unfolding Above Each
lower_start s q [] c d k h a = tt
lower_start s q (p ∷ ps) c d k h a = (le_trans_clear s q.soc p.soc c d k.0.clear h a.0, a.1)

-- p put among points that rise from s on, where s is not above it
insert-above : (s : Float) (p : Point) (ps : List Point) → Soc p.soc → Socs ps → T (le s p.soc) → Above le s ps → Above le s (insert p ps)
unfolding insert Above Each
insert-above s p [] c k h a = (h, tt)
insert-above s p (q ∷ qs) c k h a = go (lt q.soc p.soc) refl (insert-above q.soc p qs c k.1) (insert-above p.soc q qs k.0 k.1)
  where
    go : (b : Bool) → lt q.soc p.soc ≡ b
        → (T (le q.soc p.soc) → Above le q.soc qs → Above le q.soc (insert p qs))
        → (T (le p.soc q.soc) → Above le p.soc qs → Above le p.soc (insert q qs))
        → Above le s (cond b q p ∷ insert (cond b p q) qs)
    go true t f g = (a.0, f (le_of_lt q.soc p.soc t) a.1)
    go false t f g =
        let l = le_of_not_lt q.soc p.soc (number q.soc k.0.clear) (number p.soc c.clear) t in
        (h, g l (lower_start p.soc q qs c.clear k.0.clear k.1 l a.1))

insert_rises : (p : Point) (ps : List Point) → Soc p.soc → Socs ps → Rises le ps → Rises le (insert p ps)
unfolding insert Rises Above Each
insert_rises p [] c k h = tt
insert_rises p (q ∷ qs) c k h = go (lt q.soc p.soc) refl
  where
    go : (b : Bool) → lt q.soc p.soc ≡ b → Above le (cond b q p).soc (insert (cond b p q) qs)
    go true t = insert-above q.soc p qs c k.1 (le_of_lt q.soc p.soc t) h
    go false t =
        let l = le_of_not_lt q.soc p.soc (number q.soc k.0.clear) (number p.soc c.clear) t in
        insert-above p.soc q qs k.0 k.1 l (lower_start p.soc q qs c.clear k.0.clear k.1 l h)

sort_rises : (done ps : List Point) → Socs done → Socs ps → Rises le done → Rises le (sort_into done ps)
unfolding sort_into Each
sort_rises done [] d k h = h
sort_rises done (p ∷ ps) d k h =
    sort_rises (insert p done) ps (each_permuted (λ q. Soc q.soc) (insert_permutes p done) (k.0, d)) k.1 (insert_rises p done k.0 d h)

pub sorted_rises : (ps : List Point) → Socs ps → Rises le (sort_into [] ps)
sorted_rises ps k = sort_rises [] ps (unfold Each in tt) k (unfold Rises in tt)

-- strictly, if no two are equal
strict_above : (p : Point) (ps : List Point) → Each (Other p) ps → Different ps → Above le p.soc ps → Above lt p.soc ps
unfolding Above Different Each
strict_above p [] e d h = tt
strict_above p (q ∷ qs) e d h = (subst T (sym (below_of_ne p.soc q.soc h.0 e.0)) tt, strict_above q qs d.0 d.1 h.1)

strict : (ps : List Point) → Different ps → Rises le ps → Rises lt ps
unfolding Rises Different
strict [] d h = tt
strict (p ∷ ps) d h = strict_above p ps d.0 d.1 h

-- ---- the two ends
module _ (r : Float → Float → Bool) (of_lt : (x y : Float) → lt x y ≡ true → T (r x y)) where
  start_rises : (ps : List Point) → Rises r ps → Rises r (with_start ps)
  unfolding with_start Rises Above
  start_rises [] h = tt
  start_rises (p ∷ ps) h = go (lt (ratio 0 1) p.soc) refl
    where
      go : (b : Bool) → lt (ratio 0 1) p.soc ≡ b → Rises r (cond b (record { soc = ratio 0 1; power = p.power } ∷ p ∷ ps) (p ∷ ps))
      go true t = (of_lt (ratio 0 1) p.soc t, h)
      go false t = h

  end_above : (s : Float) (p : Point) (ps : List Point) → Above r s (p ∷ ps) → Above r s (with_end (p ∷ ps))
  unfolding with_end Above
  end_above s p [] h = go (lt p.soc (ratio 1 1)) refl
    where
      go : (b : Bool) → lt p.soc (ratio 1 1) ≡ b → Above r s (cond b (p ∷ record { soc = ratio 1 1; power = p.power } ∷ []) (p ∷ []))
      go true t = (h.0, (of_lt p.soc (ratio 1 1) t, tt))
      go false t = h
  end_above s p (q ∷ qs) h = (h.0, end_above p.soc q qs h.1)

  end_rises : (ps : List Point) → Rises r ps → Rises r (with_end ps)
  unfolding with_end Rises Above
  end_rises [] h = tt
  end_rises (p ∷ []) h = go (lt p.soc (ratio 1 1)) refl
    where
      go : (b : Bool) → lt p.soc (ratio 1 1) ≡ b → Rises r (cond b (p ∷ record { soc = ratio 1 1; power = p.power } ∷ []) (p ∷ []))
      go true t = (of_lt p.soc (ratio 1 1) t, tt)
      go false t = tt
  end_rises (p ∷ q ∷ qs) h = end_above p.soc q qs h

-- ---- the curve rises by SOC
pub rises : (ps : List Point) → Socs ps → Rises le (curve_of ps)
unfolding curve_of
rises ps k = end_rises le le_of_lt (with_start (sort_into [] ps)) (start_rises le le_of_lt (sort_into [] ps) (sorted_rises ps k))

-- strictly, if the SOCs of the block are all different
pub rises_strictly : (ps : List Point) → Socs ps → Different ps → Rises lt (curve_of ps)
unfolding curve_of
rises_strictly ps k d =
    let of : (x y : Float) → lt x y ≡ true → T (lt x y) = λ x y t. subst T (sym t) tt in
    end_rises lt of (with_start (sort_into [] ps)) (start_rises lt of (sort_into [] ps) (strict (sort_into [] ps) (different_permuted (sorted_permutes ps) d) (sorted_rises ps k)))

-- ---- from SOC 0 to SOC 1, if there is a point
unfoldable pub Starts : List Point → Type 0
Starts [] = Unit {0}
Starts (p ∷ ps) = T (eq (ratio 0 1) p.soc)

unfoldable pub EndsFrom : Float → List Point → Type 0
EndsFrom s [] = T (eq s (ratio 1 1))
EndsFrom s (p ∷ ps) = EndsFrom p.soc ps

unfoldable pub Ends : List Point → Type 0
unfolding EndsFrom
Ends [] = Unit {0}
Ends (p ∷ ps) = EndsFrom p.soc ps

start_starts : (ps : List Point) → Socs ps → Starts (with_start ps)
unfolding with_start Starts Each ratio eq
start_starts [] k = tt
start_starts (p ∷ ps) k = go (lt (ratio 0 1) p.soc) refl
  where
    go : (b : Bool) → lt (ratio 0 1) p.soc ≡ b → Starts (cond b (record { soc = ratio 0 1; power = p.power } ∷ p ∷ ps) (p ∷ ps))
    go true t = tt
    go false t = equal (ratio 0 1) p.soc k.0.low t

end_starts : (ps : List Point) → Starts ps → Starts (with_end ps)
unfolding with_end Starts
end_starts [] h = tt
end_starts (p ∷ []) h = go (lt p.soc (ratio 1 1))
  where
    go : (b : Bool) → Starts (cond b (p ∷ record { soc = ratio 1 1; power = p.power } ∷ []) (p ∷ []))
    go true = h
    go false = h
end_starts (p ∷ q ∷ qs) h = h

pub starts : (ps : List Point) → Socs ps → Starts (curve_of ps)
unfolding curve_of
starts ps k = end_starts (with_start (sort_into [] ps)) (start_starts (sort_into [] ps) (each_permuted (λ p. Soc p.soc) (sorted_permutes ps) k))

end_from : (s : Float) (p : Point) (ps : List Point) → Socs (p ∷ ps) → EndsFrom s (with_end (p ∷ ps))
unfolding with_end EndsFrom Each ratio eq
end_from s p [] k = go (lt p.soc (ratio 1 1)) refl
  where
    go : (b : Bool) → lt p.soc (ratio 1 1) ≡ b → EndsFrom s (cond b (p ∷ record { soc = ratio 1 1; power = p.power } ∷ []) (p ∷ []))
    go true t = tt
    go false t = equal p.soc (ratio 1 1) k.0.high t
end_from s p (q ∷ qs) k = end_from p.soc q qs k.1

end_ends : (ps : List Point) → Socs ps → Ends (with_end ps)
unfolding with_end Ends EndsFrom Each ratio eq
end_ends [] k = tt
end_ends (p ∷ []) k = go (lt p.soc (ratio 1 1)) refl
  where
    go : (b : Bool) → lt p.soc (ratio 1 1) ≡ b → Ends (cond b (p ∷ record { soc = ratio 1 1; power = p.power } ∷ []) (p ∷ []))
    go true t = tt
    go false t = equal p.soc (ratio 1 1) k.0.high t
end_ends (p ∷ q ∷ qs) k = end_from p.soc q qs k.1

start_socs : (ps : List Point) → Socs ps → Socs (with_start ps)
unfolding with_start Each ratio fits le
start_socs [] k = tt
start_socs (p ∷ ps) k = go (lt (ratio 0 1) p.soc)
  where
    go : (b : Bool) → Socs (cond b (record { soc = ratio 0 1; power = p.power } ∷ p ∷ ps) (p ∷ ps))
    go true = (tested (ratio 0 1) (ratio 0 1) (ratio 1 1) tt, k)
    go false = k

pub ends : (ps : List Point) → Socs ps → Ends (curve_of ps)
unfolding curve_of
ends ps k = end_ends (with_start (sort_into [] ps)) (start_socs (sort_into [] ps) (each_permuted (λ p. Soc p.soc) (sorted_permutes ps) k))

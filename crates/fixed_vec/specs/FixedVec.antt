-- What a contract sees of a `FixedVec`.
use Rattle.std.specs.Prelude.{ℕ, List, ◌++◌, take, drop, refl}
use Rattle.std.specs.Coded.{Coded, code_by, coded_list, coded×, coded_ℕ}

-- what lies behind the elements, and where that begins: a copy has it too
pub record Room (T : Type 0) : Type 0 where
  pub spare : List T
  pub start : ℕ

-- the elements in order, and the room behind them, of which no contract above says anything
pub record FixedVec (T : Type 0) : Type 0 where
  pub items : List T
  pub room : Room T

-- each is stored as the pair of its fields
abbrev pub room_code : {T : Type 0} → Coded T → Coded (Room T)
room_code {T} code =
    code_by (List T × ℕ) (coded× (coded_list code) coded_ℕ) (λ r. (r.spare, r.start)) (λ p. record { spare = p.0; start = p.1 }) (λ _. refl)

abbrev pub fixed_vec_code : {T : Type 0} → Coded T → Coded (FixedVec T)
fixed_vec_code {T} code =
    code_by (List T × Room T) (coded× (coded_list code) (room_code code)) (λ v. (v.items, v.room)) (λ p. record { items = p.0; room = p.1 }) (λ _. refl)

module _ {T : Type 0} where
  -- cells of which the first n are elements
  abbrev pub cut : ℕ → List T → FixedVec T
  cut n xs = record { items = take n xs; room = record { spare = drop n xs; start = n } }

  -- v after a write of its elements as a slice
  abbrev pub with_items : FixedVec T → List T → FixedVec T
  with_items v xs = cut v.room.start (xs ++ v.room.spare)

-- Rules. Connectors by their codes: 1 Ccs1, 2 Ccs2, 3 Chademo, 4 Gbt, 5 Nacs. A charger's row says for each code, 1 to 5, whether it has that connector.
use Rattle.std.specs.Prelude.{Bool, false, ◌&&◌, List, [], ◌∷◌, Option, ℕ, zero, suc, ◌-◌, leb, eqb, get_or, take}
use Rattle.std.specs.List.{find, list_any}
use Rattle.std.specs.Option.{is_some}
use Rattle.charger.specs.declared.connector.Connectors.{Connectors}

abbrev pub has_code : List Bool → ℕ → Bool
has_code row k = leb 1 k && get_or row (k - 1) false

-- the first of the vehicle's codes that the charger has
abbrev pub common : List Bool → List ℕ → Option ℕ
common row ks = find (has_code row) ks

abbrev pub is_connector : Option ℕ → Bool
is_connector k = is_some k

-- ---- the connectors that a block names, by their count and their codes

-- the codes that count; count 0 means Nacs alone
abbrev pub codes_of : ℕ → List ℕ → List ℕ
codes_of zero codes = 5 ∷ []
codes_of (suc n) codes = take (suc n) codes

-- the same as a vehicle holds them
abbrev pub named_connectors : ℕ → List ℕ → Connectors
named_connectors zero codes = record { codes = 5 ∷ 0 ∷ 0 ∷ 0 ∷ 0 ∷ []; count = 1 }
named_connectors (suc n) codes = record { codes = codes; count = suc n }

abbrev pub contains : List ℕ → ℕ → Bool
contains ks k = list_any (λ j. eqb j k) ks

-- the row of a charger with these codes
abbrev pub row_of : List ℕ → List Bool
row_of ks = contains ks 1 ∷ contains ks 2 ∷ contains ks 3 ∷ contains ks 4 ∷ contains ks 5 ∷ []

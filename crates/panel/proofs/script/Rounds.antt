-- How many rounds a script asks for. Assumes nothing.
use Rattle.std.proofs.Common.{◌≡◌, ℕ, ◌+◌, ◌<◌, List, map, length, drop, get_or, ap, drop-cons, add-one}
use Rattle.panel.specs.Script.{operation_of, asked, rounds_in}

-- those that the script's operations from the k-th on ask for
abbrev pub left : ℕ → List ℕ → ℕ
left k script = rounds_in (map operation_of (drop k script))

pub left_step : (k : ℕ) (script : List ℕ) → k < length script → left k script ≡ asked (operation_of (get_or script k 0)) + left (k + 1) script
left_step k script h =
    rw add-one (ap (λ l. rounds_in (map operation_of l)) (drop-cons script k 0 h))

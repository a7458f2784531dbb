-- Refinement: the SOCs of a profile in a list, as the program reads them once.
use Rattle.std.specs.Prelude.{Bool, not, List, length, slice_index_or, Float}
use Rattle.std.specs.Float.{nan}
use Rattle.std.specs.Float.Ieee.{eq}
use Rattle.plan.specs.Search.{every}

-- a SOC equals none of some others
unfoldable pub new_among : List Float → Float → Bool
new_among socs soc = every (λ j. not (eq (slice_index_or socs j nan) soc)) 0 (length socs)

-- `files::read::read_curve` meets its contract. Assumes nothing.
use mathlib.Core.Path.{◌∙◌}
use native.Mathlib.Omega.{arith}
use borrow.Author.Tests.{lt-ltb, le-ltb}
use Rattle.files.specs.Read.{curve_of_profile, points_of}
use Rattle.files.proofs.read.read_curve.Goals as goal

pub returns-then-k-profile_count : goal.returns-then-k-profile_count
unfolding curve_of_profile points_of
returns-then-k-profile_count c =
    (c.new.ensures.made ∙ rw (c.store_points.ensures, ← c.profile_count.ensures.0, lt-ltb _ _ c.if-k-profile_count.true, ← c.block_of-b.ensures, ← c.point_count-n.ensures.0), omega arith)

pub returns : goal.returns
unfolding curve_of_profile
returns c = (rw (← c.profile_count.ensures.0, le-ltb _ _ c.if-k-profile_count.false), omega arith)

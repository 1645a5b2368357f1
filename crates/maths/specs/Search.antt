-- A test that is asked of one of two. Assumes nothing.
use Rattle.std.specs.Prelude.{Bool, true, false}

-- one of the two holds
abbrev pub either : Bool → Bool → Bool
either true b = true
either false b = b

-- Plain bytes: most of those that names are made of, told by comparisons. These are promises of inner functions.
-- Assumes nothing.
use Rattle.std.specs.Prelude.{ℕ, ◌<◌, ◌≡◌, Bool, true, ◌||◌, List, eqb, length, take}
use Prim.Native.Char.{code}
use Rattle.chars.specs.Bytes.{within, underscore}
use Rattle.chars.specs.Classes.{classes}
use Rattle.chars.specs.Lists.{every}

-- of the bytes that stand for themselves in a segment all but `!`, `$`, `=` and `~`; and the slash
unfoldable pub plain : ℕ → Bool
plain b = within (code "&") (code ";") b || within (code "@") (code "Z") b || within (code "a") (code "z") b || eqb b underscore

-- the table t is laid out, where it is wanted
pub record Laid (wanted : Bool) (t : List ℕ) : Type 0 where
  pub is : wanted ≡ true → t ≡ classes

-- the first k bytes of s, or all, pass p; where there are more, t is the table of classes
pub record Known (p : ℕ → Bool) (t s : List ℕ) (k : ℕ) : Type 0 where
  pub bytes : every p (take k s) ≡ true
  pub table : k < length s → t ≡ classes

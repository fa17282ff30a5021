-- Numbers written in decimal.
-- Assumes nothing.
use Rattle.std.specs.Prelude.{ℕ, zero, suc, ◌+◌, ◌-◌, ◌*◌, ◌/◌, ◌%◌, Bool, not, ◌&&◌, ◌||◌, cond, List, [], ◌∷◌, ◌++◌, leb, ltb, eqb, length, get_or}
use Prim.Native.Char.{code}
use Rattle.chars.specs.Bytes.{digit}
use Rattle.chars.specs.Lists.{is_empty, every}

-- the number that digits stand for, after the number v
unfoldable pub value : ℕ → List ℕ → ℕ
value v [] = v
value v (d ∷ s) = value (v * 10 + (d - code "0")) s

-- "k is 0 to 9,999 without leading zeros"
unfoldable pub numeral : List ℕ → Bool
numeral s = not (is_empty s) && (eqb (length s) 1 || not (eqb (get_or s 0 0) (code "0"))) && every digit s && leb (value 0 s) 9999

-- the digits of n, up to so many of them
unfoldable pub digits : ℕ → ℕ → List ℕ
digits zero n = []
digits (suc places) n = cond (ltb n 10) ((code "0" + n) ∷ []) (digits places (n / 10) ++ (code "0" + n % 10) ∷ [])

-- a number below 10,000 in decimal
abbrev pub decimal4 : ℕ → List ℕ
decimal4 n = digits 4 n

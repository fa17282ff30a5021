use lib.ListN.{length}
use mathlib.Core.Path.{◌≡◌, refl, sym, ap, ◌∙◌}
use mathlib.Core.Bool.{not}
use Prim.Native.Nat.{ℕ}
use native.Mathlib.Omega.{arith}
use Rattle.chars.specs.Bytes.{member}
use Rattle.chars.specs.declared.search.Alphabet.TheVariants.{Id}
use Rattle.chars.proofs.Searches.{first_hit, first_miss, first_end_lem}
use Rattle.markup.proofs.names.name_bytes_end.Goals as goal

pub loop-i-init : goal.loop-i-init
loop-i-init c = ((omega arith, omega arith), refl)

pub returns-then-not-is_name_byte : goal.returns-then-not-is_name_byte
returns-then-not-is_name_byte c =
    let loop = c.loop-i in
    let test = ap not c.is_name_byte.ensures in
    (loop.invariant.0, sym (loop.invariant.1 ∙ first_hit (λ (x : ℕ). not (member Id x)) _ _ _ c.loop-i-test.true test (ap not c.if-not-is_name_byte.true)))

pub loop-i-preserved : goal.loop-i-preserved
loop-i-preserved c =
    let loop = c.loop-i in
    let test = ap not c.is_name_byte.ensures in
    ((omega arith, omega arith), loop.invariant.1 ∙ first_miss (λ (x : ℕ). not (member Id x)) _ _ _ c.loop-i-test.true test (ap not c.if-not-is_name_byte.false))

pub returns : goal.returns
returns c =
    let loop = c.loop-i in
    let all : loop.i ≡ length c.args.s.now = omega (arith, loop.invariant.0) in
    ((c.requires, omega arith), sym (loop.invariant.1 ∙ first_end_lem (λ (x : ℕ). not (member Id x)) _ _ c.loop-i-test.false ∙ all))

-- What a program gets back that composes a pack IRI and resolves it, by the contracts of the two calls.
-- Assumes nothing.
use Prim.Native.Nat.{ℕ, ◌≤◌}
use mathlib.Core.Path.{◌≡◌, refl, ap, sym, ◌∙◌}
use mathlib.Core.Bool.{true}
use mathlib.Core.List.{List, [], ◌∷◌, ◌++◌}
use native.Mathlib.Omega.{arith}
use lib.ListN.{length, get_or, take, drop, replicate}
use borrow.Author.Tests.{le-leb, eqb-true}
use Rattle.chars.specs.Bytes.{ascii}
use Rattle.names.specs.Iris.{package_iri}
use Rattle.output.specs.Answers.{Answer, answer, of_written}
use Rattle.output.proofs.Answering.{number_some, filled_fits}
use Rattle.pack.specs.Pack.{unfragmented, pack_iri, part_or_root, compose, part_of, Found, resolve_pack, of_resolved, located}
use Rattle.pack.specs.Demand.{composing, resolving, bytes_written}
use Rattle.std.specs.Prelude.{Result, Ok, Err}
use Rattle.output.specs.declared.refusals.Unwritten.{Unwritten}
use Rattle.output.specs.declared.refusals.Unwritten.TheVariants.{TooShort, Refused}
use Rattle.pack.specs.declared.pack.Resolved.{Resolved}
use Rattle.pack.proofs.PackIris.{every_pack_iri}
use Rattle.model.specs.Opened.{everything}

-- the answer of a call that wrote a text
only_bytes : (w : Result ℕ Unwritten) (t out out' : List ℕ)
    → of_written w out' ≡ answer 0 (length t ∷ []) (t ++ drop (length t) out) → w ≡ Ok (length t)
only_bytes (Ok n) t out out' e = ap Ok (ap (λ (a : Answer). get_or a.values 0 0) e)
only_bytes (Err (TooShort n)) t out out' e = absurd (omega (arith, ap (λ (a : Answer). a.number) e))
only_bytes (Err (Refused f)) t out out' e = absurd (number_some f (ap (λ (a : Answer). a.number) e))

-- out is the output of composing, w its answer, and out' what the output holds then
module _ (base name out : List ℕ) (p : package_iri base ≡ true) (n : part_or_root name ≡ true) (l : length (pack_iri base name) ≤ length out) where
  composed_bytes : (w : Result ℕ Unwritten) (out' : List ℕ) → of_written w out' ≡ composing base name out → w ≡ Ok (length (pack_iri base name))
  unfolding compose
  composed_bytes w out' e = only_bytes w (pack_iri base name) out out' (e ∙ rw (p, n) (filled_fits 1 out (pack_iri base name) [] l))

  pub never_refused : (w : Result ℕ Unwritten) (u : Unwritten) (out' : List ℕ) → of_written w out' ≡ composing base name out → w ≡ Err u → ⊥
  never_refused w u out' e s = cc (s, composed_bytes w out' e)

  pub bytes_few : (w : Result ℕ Unwritten) (k : ℕ) (out' : List ℕ) → of_written w out' ≡ composing base name out → w ≡ Ok k → k ≤ length out
  bytes_few w k out' e s = let b : k ≡ length (pack_iri base name) = cc (s, composed_bytes w out' e) in omega arith

  pub resolved_back : (w : Result ℕ Unwritten) (k : ℕ) (out' found : List ℕ) → of_written w out' ≡ composing base name out → w ≡ Ok k
      → located (resolve_pack (take k out')) found ≡ located (Found (unfragmented base) (part_of name)) found
  resolved_back w k out' found e s =
      ap (λ (a : Answer). resolving (bytes_written a) found) (ap (λ (x : Result ℕ Unwritten). of_written x out') (sym s) ∙ e)
      ∙ every_pack_iri.returned base name out found (eqb-true _ 0 (every_pack_iri.accepted base name out ∙ rw (p, n, le-leb _ _ l)))

-- ONE PACKAGE IRI. what it takes to compose it, and the last byte that comes back
abbrev pub example_base : List ℕ
example_base = ascii "http://www.example.com/ex.opc#top"

abbrev pub example_name : List ℕ
example_name = ascii "/foo/b.xml"

pub example_composed : (package_iri example_base ≡ true) × (part_or_root example_name ≡ true) × (length (pack_iri example_base example_name) ≤ 48)
unfolding everything
example_composed = (refl, refl, omega arith)

example_found : located (Found (unfragmented example_base) (part_of example_name)) (replicate 39 0) ≡ answer 0 (29 ∷ 10 ∷ []) (ascii "http://www.example.com/ex.opc/foo/b.xml")
unfolding everything
example_found = refl

found_output : (r : Result Resolved Unwritten) (a b : ℕ) (o out : List ℕ) → of_resolved r out ≡ answer 0 (a ∷ b ∷ []) o → out ≡ o
found_output (Ok x) a b o out e = ap (λ (x : Answer). x.output) e
found_output (Err (TooShort m)) a b o out e = ap (λ (x : Answer). x.output) e
found_output (Err (Refused f)) a b o out e = ap (λ (x : Answer). x.output) e

pub example_end : (r : Result Resolved Unwritten) (out : List ℕ) → of_resolved r out ≡ located (Found (unfragmented example_base) (part_of example_name)) (replicate 39 0) → get_or out 38 0 ≡ 108
example_end r out e = ap (λ (o : List ℕ). get_or o 38 0) (found_output r 29 10 _ out (e ∙ example_found))

-- Demand 2 over the two calls: what composing wrote, resolving answers back.
-- Assumes nothing.
use Prim.Native.Nat.{ℕ}
use mathlib.Core.Path.{◌≡◌, refl, ap, ◌∙◌}
use mathlib.Core.Bool.{Bool, true, false, ◌&&◌}
use mathlib.Core.List.{List, []}
use native.Mathlib.Omega.{arith}
use lib.Dec.{leb, eqb}
use lib.ListN.{length, drop}
use lib.Seq.{take-append_seam}
use Rattle.names.specs.Iris.{package_iri}
use Rattle.output.specs.Answers.{Outcome, Text, provided, filled, written}
use Rattle.output.proofs.Answering.{filled_accepted, filled_written}
use Rattle.pack.specs.Pack.{pack_iri, part_or_root, compose}
use Rattle.pack.specs.Demand.{EveryPackIri, bytes_written}
use Rattle.pack.proofs.RoundTrip.{pack_iris_return}

-- the text t of a package IRI and a name, by their judgements
abbrev judged : Bool → Bool → List ℕ → Outcome
judged p n t = provided p 9 (provided n 4 (Text t []))

judged_accepted : (p n : Bool) (t out : List ℕ) → eqb (written (judged p n t) out).number 0 ≡ (p && n && leb (length t) (length out))
unfolding filled
judged_accepted true true t out = filled_accepted 1 out t []
judged_accepted true false t out = refl
judged_accepted false n t out = refl

judged_written : (p n : Bool) (t out : List ℕ) → (written (judged p n t) out).number ≡ 0 → (p ≡ true) × (n ≡ true) × (bytes_written (written (judged p n t) out) ≡ t)
unfolding filled
judged_written true true t out e = (refl, refl, ap bytes_written (filled_written 1 out t [] e) ∙ take-append_seam t (drop (length t) out))
judged_written true false t out e = absurd (omega arith)
judged_written false n t out e = absurd (omega arith)

pub every_pack_iri : EveryPackIri
unfolding compose
every_pack_iri = record {
  accepted = λ base name out. judged_accepted (package_iri base) (part_or_root name) (pack_iri base name) out;
  returned = λ base name out found e.
      let w = judged_written (package_iri base) (part_or_root name) (pack_iri base name) out e in
      rw (w.2, pack_iris_return base name w.0 w.1);
}

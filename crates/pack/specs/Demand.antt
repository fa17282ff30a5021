-- Demand 2 over the two calls on pack IRIs. `proofs/PackIris.antt` proves it.
-- Assumes nothing.
use Rattle.std.specs.Prelude.{ℕ, ◌≡◌, ◌&&◌, List, leb, eqb, length, get_or, take}
use Rattle.names.specs.Iris.{package_iri}
use Rattle.output.specs.Answers.{Answer, written}
use Rattle.pack.specs.Pack.{unfragmented, pack_iri, part_or_root, compose, part_of, Found, resolve_pack, located}

-- what the call `compose` answers, for an output that held out
abbrev pub composing : List ℕ → List ℕ → List ℕ → Answer
composing base name out = written (compose base name) out

-- what the call `resolve_pack` answers
abbrev pub resolving : List ℕ → List ℕ → Answer
resolving text out = located (resolve_pack text) out

-- the bytes that an accepted call wrote: as many as its value says, from the beginning of its output
abbrev pub bytes_written : Answer → List ℕ
bytes_written a = take (get_or a.values 0 0) a.output

-- DEMAND 2. "composing a pack IRI and resolving it returns the package IRI without its fragment, and the part name"
pub record EveryPackIri : Type 0 where
  -- for every package IRI and part name or `/`, and no others, composing is accepted once the output suffices
  pub accepted : (base name out : List ℕ) → eqb (composing base name out).number 0 ≡ (package_iri base && part_or_root name && leb (length (pack_iri base name)) (length out))
  -- what it then wrote is resolved to the package IRI without its fragment and the part name, for every output lent for them
  pub returned : (base name out found : List ℕ) → (composing base name out).number ≡ 0
      → resolving (bytes_written (composing base name out)) found ≡ located (Found (unfragmented base) (part_of name)) found

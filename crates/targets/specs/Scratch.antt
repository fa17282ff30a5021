-- What the inner functions ensure of scratch that a caller lends.
-- Assumes nothing.
use Rattle.std.specs.Prelude.{ℕ, ◌≡◌, List, length, take, Result, Ok, Err}
use Rattle.iri.specs.References.{target}
use Rattle.targets.specs.Targets.{resolve_path, internal_refusal}
use Rattle.output.specs.Refusals.{number}
use Rattle.output.specs.declared.refusals.Refusal.{Refusal}

-- what an internal target resolves to stands in the scratch; or its refusal
abbrev pub NamedAs : List ℕ → List ℕ → Result ℕ Refusal → List ℕ → Type 0
NamedAs source target (Ok k) out' =
    (internal_refusal source target ≡ 0) × (take k out' ≡ resolve_path source target) × (k ≡ length (resolve_path source target))
NamedAs source target (Err r) out' = internal_refusal source target ≡ number r

-- Equivalent names are judged alike as sources, go back to equivalent ones, and targets are judged alike from them.
-- Assumes nothing.
use Prim.Native.Nat.{◌-◌, ℕ}
use mathlib.Core.Path.{ap, ◌≡◌, sym, ◌∙◌}
use mathlib.Core.Bool.{true}
use mathlib.Core.List.{List}
use lib.ListN.{length, length-map, take}
use Rattle.chars.specs.Bytes.{slash}
use Rattle.chars.specs.Folding.{fold, lower}
use Rattle.chars.specs.Lists.{after_last}
use Rattle.chars.proofs.FoldedTexts.{take_map, fold_append, last_fold, root_fold}
use Rattle.iri.specs.References.{relative_path}
use Rattle.iri.proofs.FoldedPaths.{relative_path_fold}
use Rattle.names.proofs.FoldedNames.{part_name_fold, last_segment_fold, folder_fold, reserved_fold, equivalent_part_names, equivalent_reserved}
use Rattle.names.specs.Names.{last_segment, folder}
use Rattle.targets.specs.Relationships.{source_of}
use Rattle.targets.specs.Targets.{source_refusal, resolve_path, internal_refusal, target_refusal}

source_refusal_fold : (s : List ℕ) → source_refusal (fold s) ≡ source_refusal s
unfolding source_refusal
source_refusal_fold s = rw (root_fold s, part_name_fold s, reserved_fold s)

source_of_fold : (s : List ℕ) → source_of (fold s) ≡ fold (source_of s)
unfolding source_of
source_of_fold s =
    rw (
      folder_fold s,
      last_fold (folder s),
      take_map lower (after_last slash (folder s)) s,
      last_segment_fold s,
      length-map (last_segment s) lower,
      take_map lower (length (last_segment s) - 5) (last_segment s),
    )
    (sym (fold_append (take (after_last slash (folder s)) s) (take (length (last_segment s) - 5) (last_segment s))))

-- the same for two equivalent texts
module _ (a b : List ℕ) (h : fold a ≡ fold b) where
  pub equivalent_sources : source_refusal a ≡ source_refusal b
  equivalent_sources = sym (source_refusal_fold a) ∙ ap source_refusal h ∙ source_refusal_fold b

  pub equivalent_back : fold (source_of a) ≡ fold (source_of b)
  equivalent_back = sym (source_of_fold a) ∙ ap source_of h ∙ source_of_fold b

  -- what a target resolves to from them is equivalent
  resolved_alike : (t : List ℕ) → fold (resolve_path a t) ≡ fold (resolve_path b t)
  unfolding resolve_path
  resolved_alike t = sym (relative_path_fold true a t) ∙ ap (λ (s : List ℕ). relative_path true s (fold t)) h ∙ relative_path_fold true b t

  pub equivalent_targets : (mode : ℕ) (t : List ℕ) → target_refusal mode a t ≡ target_refusal mode b t
  unfolding target_refusal internal_refusal
  equivalent_targets mode t =
      rw (
        equivalent_part_names (resolve_path a t) (resolve_path b t) (resolved_alike t),
        equivalent_reserved (resolve_path a t) (resolve_path b t) (resolved_alike t),
      )

-- Equivalent names are judged alike: part names, reserved names.
-- Assumes nothing.
use Prim.Native.Nat.{◌-◌, ℕ}
use mathlib.Core.Path.{ap, ◌≡◌, refl, sym, ◌∙◌}
use mathlib.Core.List.{map, List, [], ◌∷◌}
use native.Mathlib.Omega.{arith}
use lib.ListN.{drop, length, length-map, get_or}
use Rattle.chars.specs.Bytes.{dot, slash, ascii}
use Rattle.chars.specs.Folding.{fold, lower}
use Rattle.chars.specs.Lists.{last_byte, split, all, after_last}
use Rattle.chars.proofs.FoldedTexts.{take_map, drop_map, equivalent_folded, split_fold, last_fold, ends_in_fold}
use Rattle.names.specs.Names.{segment, part_name, last_segment, folder, reserved}
use Rattle.chars.proofs.Foldings.{get_or_fold, lower_eqb, tiled_fold}

segment_fold : (s : List ℕ) → segment (fold s) ≡ segment s
unfolding segment last_byte
segment_fold s = rw (length-map s lower, get_or_fold s (length s - 1), lower_eqb dot (omega arith) (get_or s (length s - 1) 0), tiled_fold 0 s)

all_fold : (l : List (List ℕ)) → all segment (map fold l) ≡ all segment l
all_fold [] = refl
all_fold (x ∷ l) = rw (segment_fold x, all_fold l)

pub part_name_fold : (s : List ℕ) → part_name (fold s) ≡ part_name s
unfolding part_name
part_name_fold s = rw (length-map s lower, get_or_fold s 0, lower_eqb slash (omega arith) (get_or s 0 0), drop_map lower 1 s, split_fold (drop 1 s), all_fold (split slash (drop 1 s)))

pub last_segment_fold : (s : List ℕ) → last_segment (fold s) ≡ fold (last_segment s)
last_segment_fold s = rw (last_fold s) (drop_map lower (after_last slash s) s)

pub folder_fold : (s : List ℕ) → folder (fold s) ≡ fold (folder s)
folder_fold s = rw (last_fold s) (take_map lower (after_last slash s - 1) s)

pub reserved_fold : (s : List ℕ) → reserved (fold s) ≡ reserved s
unfolding reserved
reserved_fold s =
    rw (folder_fold s, last_segment_fold (folder s), equivalent_folded (last_segment (folder s)) (ascii "_rels"), last_segment_fold s, ends_in_fold (ascii ".rels") (last_segment s))

-- the same for two equivalent texts
module _ (a b : List ℕ) (h : fold a ≡ fold b) where
  pub equivalent_part_names : part_name a ≡ part_name b
  equivalent_part_names = sym (part_name_fold a) ∙ ap part_name h ∙ part_name_fold b

  pub equivalent_reserved : reserved a ≡ reserved b
  equivalent_reserved = sym (reserved_fold a) ∙ ap reserved h ∙ reserved_fold b

-- The reply for an item name taken apart.
-- Assumes nothing.
use Prim.Native.Nat.{ℕ}
use mathlib.Core.Path.{◌≡◌}
use mathlib.Core.Bool.{Bool}
use mathlib.Core.List.{List, [], ◌∷◌}
use Rattle.output.specs.Answers.{answer}
use Rattle.output.specs.declared.refusals.Refusal.{Refusal}
use Rattle.names.specs.Items.{item_name, item_refusal}
use Rattle.names.specs.declared.items.Suffix.{Suffix}
use Rattle.names.specs.declared.items.Suffix.TheVariants.{Whole, Piece}
use Rattle.names.specs.declared.items.ItemName.{ItemName}
use Rattle.names.specs.declared.items.ItemName.TheVariants.{Named, Refused}
use Rattle.abi.specs.Replies.{reply_of, kind, item_answer}

module _ (s : List ℕ) (i : ItemName) (e : i ≡ item_name s) where
  pub whole_reply : (n : ℕ) (x : Suffix) → i ≡ Named n x → x ≡ Whole → reply_of (answer 0 (n ∷ 0 ∷ 0 ∷ []) []) ≡ reply_of (item_answer (item_name s))
  whole_reply n x f g = rw (← e, f, g)

  pub piece_reply : (n : ℕ) (x : Suffix) (k : ℕ) (l : Bool) (t : ℕ) → i ≡ Named n x → x ≡ Piece k l → t ≡ kind l
      → reply_of (answer 0 (n ∷ t ∷ k ∷ []) []) ≡ reply_of (item_answer (item_name s))
  piece_reply n x k l t f g h = rw (← e, f, g, h)

  pub refused_reply : (k : ℕ) (f : Refusal) → i ≡ Refused f → k ≡ item_refusal i → reply_of (answer k (0 ∷ 0 ∷ 0 ∷ []) []) ≡ reply_of (item_answer (item_name s))
  refused_reply k r f h = rw (h, ← e, f)

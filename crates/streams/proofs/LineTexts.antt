-- The lines of a stream, put together from the texts between the values.
-- Assumes nothing.
use Prim.Native.Nat.{ℕ, ◌+◌, ◌-◌, ◌*◌, ◌≤◌}
use mathlib.Core.Path.{◌≡◌, refl, ap}
use mathlib.Core.Bool.{Bool, true, false, cond}
use mathlib.Core.List.{[], ◌++◌, append_assoc}
use native.Mathlib.Omega.{arith}
use lib.Dec.{eqb}
use lib.ListN.{length, length-append}
use borrow.Author.Tests.{eq-eqb, ne_eqb}
use Rattle.chars.specs.Bytes.{ascii}
use Rattle.output.specs.Sends.{Sent}
use Rattle.output.proofs.Sending.{sent_more}
use Rattle.model.specs.Sets.{Bytes}
use Rattle.model.specs.Package.{Default, Override, Relationship}
use Rattle.model.specs.Texts.{quoted, default_line, override_line, mode_text, relationship_line}
use Rattle.model.proofs.Lengths.{quoted_length}
use Rattle.store.specs.Rows.{Row}
use Rattle.contract.specs.Rows.{default_tag, override_tag, relationship_tag, external_tag, default_row, override_row, relationship_row}
use Rattle.streams.specs.EntryLines.{type_text, mode_end, relationship_text, line_of}

-- HOW A RELATIONSHIP'S LINE ENDS
pub mode_external : (t : ℕ) → t ≡ external_tag → mode_end t ≡ ascii "\" TargetMode=\"External\"/>\n"
unfolding mode_end
mode_external t e = ap mode_end e

pub mode_internal : (t : ℕ) → (t ≡ external_tag → ⊥) → mode_end t ≡ ascii "\"/>\n"
unfolding mode_end
mode_internal t h = rw (ne_eqb (t - relationship_tag) 1 (λ e. h (omega arith)))

mode_length : (t : ℕ) → length (mode_end t) ≤ 26
unfolding mode_end
mode_length t = go (eqb (t - relationship_tag) 1)
  where
    go : (b : Bool) → length (ascii "\"" ++ (cond b (ascii " TargetMode=\"External\"") [] ++ ascii "/>\n")) ≤ 26
    go true = omega arith
    go false = omega arith

-- WHOLE LINES
module _ {o o₁ o₂ o₃ o₄ o₅ : Bytes} {at m₁ m₂ m₃ m₄ m₅ : ℕ} (l₁ : length o₁ ≡ length o) (l₂ : length o₂ ≡ length o₁) (l₃ : length o₃ ≡ length o₂)
    (l₄ : length o₄ ≡ length o₃) where
  pub sent_type : (head key media : Bytes) → Sent o at head m₁ o₁ → Sent o₁ m₁ (quoted key) m₂ o₂ → Sent o₂ m₂ (ascii "\" ContentType=\"") m₃ o₃ → Sent o₃ m₃ (quoted media) m₄ o₄
      → Sent o₄ m₄ (ascii "\"/>\n") m₅ o₅ → Sent o at (type_text head key media) m₅ o₅
  unfolding type_text
  sent_type head key media s₁ s₂ s₃ s₄ s₅ =
      sent_more o o₁ o₅ head (quoted key ++ (ascii "\" ContentType=\"" ++ (quoted media ++ ascii "\"/>\n"))) at m₁ m₅ s₁ l₁
      (sent_more o₁ o₂ o₅ (quoted key) (ascii "\" ContentType=\"" ++ (quoted media ++ ascii "\"/>\n")) m₁ m₂ m₅ s₂ l₂
      (sent_more o₂ o₃ o₅ (ascii "\" ContentType=\"") (quoted media ++ ascii "\"/>\n") m₂ m₃ m₅ s₃ l₃
      (sent_more o₃ o₄ o₅ (quoted media) (ascii "\"/>\n") m₃ m₄ m₅ s₄ l₄ s₅)))

  module _ {o₆ o₇ : Bytes} {m₆ m₇ : ℕ} (l₅ : length o₅ ≡ length o₄) (l₆ : length o₆ ≡ length o₅) where
    pub sent_relationship : (t : ℕ) (id type target : Bytes) → Sent o at (ascii "<Relationship Id=\"") m₁ o₁ → Sent o₁ m₁ (quoted id) m₂ o₂ → Sent o₂ m₂ (ascii "\" Type=\"") m₃ o₃
        → Sent o₃ m₃ (quoted type) m₄ o₄ → Sent o₄ m₄ (ascii "\" Target=\"") m₅ o₅ → Sent o₅ m₅ (quoted target) m₆ o₆ → Sent o₆ m₆ (mode_end t) m₇ o₇
        → Sent o at (relationship_text t id type target) m₇ o₇
    unfolding relationship_text
    sent_relationship t id type target s₁ s₂ s₃ s₄ s₅ s₆ s₇ =
        let e = quoted target ++ mode_end t in
        let d = quoted type ++ (ascii "\" Target=\"" ++ e) in
        sent_more o o₁ o₇ (ascii "<Relationship Id=\"") (quoted id ++ (ascii "\" Type=\"" ++ d)) at m₁ m₇ s₁ l₁
        (sent_more o₁ o₂ o₇ (quoted id) (ascii "\" Type=\"" ++ d) m₁ m₂ m₇ s₂ l₂
        (sent_more o₂ o₃ o₇ (ascii "\" Type=\"") d m₂ m₃ m₇ s₃ l₃
        (sent_more o₃ o₄ o₇ (quoted type) (ascii "\" Target=\"" ++ e) m₃ m₄ m₇ s₄ l₄
        (sent_more o₄ o₅ o₇ (ascii "\" Target=\"") e m₄ m₅ m₇ s₅ l₅
        (sent_more o₅ o₆ o₇ (quoted target) (mode_end t) m₅ m₆ m₇ s₆ l₆ s₇)))))

-- none is long
pub type_length : (head key media : Bytes) → length (type_text head key media) ≤ length head + 19 + 5 * length key + 5 * length media
unfolding type_text
type_length head key media = simp length-append (omega (arith, quoted_length key, quoted_length media))

pub relationship_length : (t : ℕ) (id type target : Bytes) → length (relationship_text t id type target) ≤ 63 + 5 * length id + 5 * length type + 5 * length target
unfolding relationship_text
relationship_length t id type target = simp length-append (omega (arith, quoted_length id, quoted_length type, quoted_length target, mode_length t))

-- THE LINE OF A ROW, by its tag
module _ (x : Row) where
  pub default_line_lem : x.tag ≡ default_tag → type_text (ascii "<Default Extension=\"") x.f0 x.f1 ≡ line_of x
  unfolding type_text line_of
  default_line_lem e = rw (eq-eqb x.tag default_tag e) (go (quoted x.f0) (quoted x.f1))
    where
      go : (k v : Bytes) → ascii "<Default Extension=\"" ++ (k ++ (ascii "\" ContentType=\"" ++ (v ++ ascii "\"/>\n")))
          ≡ (ascii "<Default" ++ ((ascii " " ++ (ascii "Extension" ++ (ascii "=\"" ++ (k ++ ascii "\"")))) ++ ((ascii " " ++ (ascii "ContentType" ++ (ascii "=\"" ++ (v ++ ascii "\"")))) ++ ascii "/>"))) ++ ascii "\n"
      go k v = simp append_assoc

  pub override_line_lem : (x.tag ≡ default_tag → ⊥) → x.tag ≡ override_tag → type_text (ascii "<Override PartName=\"") x.f0 x.f1 ≡ line_of x
  unfolding type_text line_of
  override_line_lem h e = rw (ne_eqb x.tag default_tag h, eq-eqb x.tag override_tag e) (go (quoted x.f0) (quoted x.f1))
    where
      go : (k v : Bytes) → ascii "<Override PartName=\"" ++ (k ++ (ascii "\" ContentType=\"" ++ (v ++ ascii "\"/>\n")))
          ≡ (ascii "<Override" ++ ((ascii " " ++ (ascii "PartName" ++ (ascii "=\"" ++ (k ++ ascii "\"")))) ++ ((ascii " " ++ (ascii "ContentType" ++ (ascii "=\"" ++ (v ++ ascii "\"")))) ++ ascii "/>"))) ++ ascii "\n"
      go k v = simp append_assoc

  pub relationship_line_lem : (x.tag ≡ default_tag → ⊥) → (x.tag ≡ override_tag → ⊥) → relationship_text x.tag x.f1 x.f2 x.f3 ≡ line_of x
  unfolding relationship_text mode_end line_of
  relationship_line_lem h k = rw (ne_eqb x.tag default_tag h, ne_eqb x.tag override_tag k) (go (quoted x.f1) (quoted x.f2) (quoted x.f3) (mode_text (x.tag - relationship_tag)))
    where
      go : (i v t m : Bytes) → ascii "<Relationship Id=\"" ++ (i ++ (ascii "\" Type=\"" ++ (v ++ (ascii "\" Target=\"" ++ (t ++ (ascii "\"" ++ (m ++ ascii "/>\n")))))))
          ≡ (ascii "<Relationship" ++ ((ascii " " ++ (ascii "Id" ++ (ascii "=\"" ++ (i ++ ascii "\"")))) ++ ((ascii " " ++ (ascii "Type" ++ (ascii "=\"" ++ (v ++ ascii "\""))))
          ++ ((ascii " " ++ (ascii "Target" ++ (ascii "=\"" ++ (t ++ ascii "\"")))) ++ (m ++ ascii "/>"))))) ++ ascii "\n"
      go i v t m = simp append_assoc

-- THE LINE OF AN ENTRY'S ROW
pub default_row_line : (d : Default) → line_of (default_row d) ≡ default_line d
unfolding line_of default_row
default_row_line d = refl

pub override_row_line : (o : Override) → line_of (override_row o) ≡ override_line o
unfolding line_of override_row
override_row_line o = refl

pub relationship_row_line : (r : Relationship) → line_of (relationship_row r) ≡ relationship_line r
unfolding line_of relationship_row
relationship_row_line r =
    let t = relationship_tag + r.mode in
    let e : t - relationship_tag ≡ r.mode = omega arith in
    rw (ne_eqb t default_tag (λ z. omega arith), ne_eqb t override_tag (λ z. omega arith), e)

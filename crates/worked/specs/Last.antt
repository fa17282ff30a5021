-- The answer of the last call of each worked list.
-- Assumes nothing.
use Rattle.std.specs.Prelude.{List, [], ◌∷◌, ◌++◌, ℕ, length, drop}
use Rattle.chars.specs.Bytes.{ascii}
use Rattle.output.specs.Answers.{Answer, answer}
use Rattle.model.specs.Texts.{line}

-- "M from `/foo/test.xml` in `http://www.example.com/ex.opc`, `b.xml` gives `pack://http%3A,,www.example.com,ex.opc/foo/b.xml`"
abbrev pub led_text : List ℕ
led_text = ascii "pack://http%3A,,www.example.com,ex.opc/foo/b.xml"

-- 48 bytes, internal, held; the output past them is kept
abbrev pub led_to : List ℕ → Answer
led_to out = answer 0 (48 ∷ 0 ∷ 1 ∷ []) (led_text ++ drop 48 out)

-- the text at the beginning of the output, whose rest is kept
abbrev pub wrote : List ℕ → List ℕ → Answer
wrote text out = answer 0 (length text ∷ []) (text ++ drop (length text) out)

-- the same of a Default's extension, where it is why a part has its type: 1 and the length
abbrev pub by_default : List ℕ → List ℕ → Answer
by_default extension out = answer 0 (1 ∷ length extension ∷ []) (extension ++ drop (length extension) out)

abbrev pub tiff_type : List ℕ
tiff_type = ascii "image/tiff"

abbrev pub joined_from : List ℕ
joined_from = ascii "bcd"

abbrev pub linked_text : List ℕ
linked_text =
    line (ascii "<?xml version=\"1.0\" encoding=\"UTF-8\"?>")
    ++ (line (ascii "<Relationships xmlns=\"http://schemas.openxmlformats.org/package/2006/relationships\">")
    ++ (line (ascii "<Relationship Id=\"r2\" Type=\"a:tile\" Target=\"u&amp;v\" TargetMode=\"External\"/>")
    ++ line (ascii "</Relationships>")))

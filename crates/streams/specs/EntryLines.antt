-- The lines of a stream, by what the code is given: the texts between the values, and the line of a row.
-- Assumes nothing.
use Rattle.std.specs.Prelude.{ℕ, ◌-◌, cond, ◌++◌, eqb}
use Rattle.chars.specs.Bytes.{ascii}
use Rattle.model.specs.Sets.{Bytes}
use Rattle.model.specs.Package.{Default, Override, Relationship}
use Rattle.model.specs.Texts.{quoted, default_line, override_line, mode_text, relationship_line}
use Rattle.store.specs.Rows.{Row}
use Rattle.contract.specs.Rows.{default_tag, override_tag, relationship_tag}

-- `head` is the start of `default_line` or `override_line`, up to the quote before the first value
unfoldable pub type_text : Bytes → Bytes → Bytes → Bytes
type_text head key media = head ++ (quoted key ++ (ascii "\" ContentType=\"" ++ (quoted media ++ ascii "\"/>\n")))

-- the end of `relationship_line`, from the quote after the target on
unfoldable pub mode_end : ℕ → Bytes
mode_end tag = ascii "\"" ++ (mode_text (tag - relationship_tag) ++ ascii "/>\n")

unfoldable pub relationship_text : ℕ → Bytes → Bytes → Bytes → Bytes
relationship_text tag id type target =
    ascii "<Relationship Id=\"" ++ (quoted id ++ (ascii "\" Type=\"" ++ (quoted type ++ (ascii "\" Target=\"" ++ (quoted target ++ mode_end tag)))))

-- the entry that a row tells of, by its set
abbrev pub default_of : Row → Default
default_of x = record { extension = x.f0; type = x.f1 }

abbrev pub override_of : Row → Override
override_of x = record { name = x.f0; type = x.f1 }

abbrev pub relationship_of : Row → Relationship
relationship_of x = record { source = x.f0; id = x.f1; type = x.f2; mode = x.tag - relationship_tag; target = x.f3 }

-- the line of that entry
unfoldable pub line_of : Row → Bytes
line_of x = cond (eqb x.tag default_tag) (default_line (default_of x)) (cond (eqb x.tag override_tag) (override_line (override_of x)) (relationship_line (relationship_of x)))

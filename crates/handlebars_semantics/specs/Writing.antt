-- Writing a text or a value.
use Rattle.std.specs.Prelude.{ℕ, Bool, true, false, [], ◌∷◌, Option, None, Some}
use Rattle.serde_json.specs.Data.{Data}
use Rattle.handlebars_base.specs.Bytes.{Text}
use Rattle.handlebars_base.specs.Scoped.{Found, present_in}
use Rattle.handlebars_base.specs.Values.{rendered, boolean_text}
use Rattle.handlebars_semantics.specs.Pieces.{Origin, of_value, of_raw, of_boolean_text, of_step, pieces_of, put}
use Rattle.handlebars_semantics.specs.Questions.{escape_of}
use Rattle.handlebars_semantics.specs.Occurrences.{Occurrence}
use Rattle.handlebars_semantics.specs.Steps.{Prog, ◌>>=◌, ◌>>◌, ask, write, state, become}

-- A text is put with the indentation in force, and the state of the line is then the one after it.
abbrev pub write_text : Origin → Text → Prog (Unit {0})
write_text o t = do
  s ← state
  write false (put o s.indent t s.line).0
  become (record s { line = (put o s.indent t s.line).1 })

-- the text of a value; the empty text if there is no value
abbrev pub rendered_if_any : Option Data → Text
rendered_if_any None = []
rendered_if_any (Some d) = rendered d

-- A value is rendered and, if escaping is on, escaped as the registry has it. The escape is asked once, for the whole text.
abbrev pub write_rendered : Occurrence → Found → Bool → Prog (Unit {0})
write_rendered occurrence v true = ask (escape_of (rendered_if_any (present_in v))) >>= write_text (of_value occurrence v)
write_rendered occurrence v false = write_text (of_raw occurrence v) (rendered_if_any (present_in v))

abbrev pub write_value : Occurrence → Found → Prog (Unit {0})
write_value occurrence v = do
  s ← state
  write_rendered occurrence v s.escapes

-- The text of a step is written as it is, past the line's state and the escaping.
abbrev pub write_step : Occurrence → ℕ → Text → Prog (Unit {0})
write_step occurrence i t = write false (pieces_of (of_step occurrence i) t)

-- A boolean helper's text is written as it is, whatever the state of the line and the escaping. The state of the line is
-- unchanged.
abbrev pub write_boolean_text : Occurrence → Bool → Prog (Unit {0})
write_boolean_text occurrence b = write true (record { origin = of_boolean_text occurrence b; text = boolean_text b } ∷ [])

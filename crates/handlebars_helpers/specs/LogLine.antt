-- The line that `log` passes to the logger.
use Rattle.std.specs.Prelude.{Bool, true, false, List, [], ◌∷◌, ◌++◌, codes}
use Rattle.serde_json.specs.Find.{as_str}
use Rattle.log.specs.Level.{parse_level}
use Rattle.log.specs.declared.level.Level.{Level}
use Rattle.handlebars_base.specs.Answers.{Answer, gives, fails_for}
use Rattle.handlebars_base.specs.Bytes.{Text}
use Rattle.handlebars_base.specs.PathAndData.{PathAndData}
use Rattle.handlebars_base.specs.Optional.{◌>>=◌, with_or}
use Rattle.handlebars_base.specs.Reasons.{invalid_logging_level}
use Rattle.handlebars_base.specs.Scoped.{data_in}
use Rattle.handlebars_base.specs.Values.{rendered, separator}
use Rattle.handlebars_helpers.specs.CallView.{CallView, hash_at}

-- the value of the hash argument `level`, if that is a string, otherwise `info`
abbrev pub level_text : CallView → Text
level_text v = with_or (hash_at (codes "level") v >>= λ p. as_str (data_in p.found)) (λ t. t) (codes "info")

-- the text as written of a value, before the value, if it has one
abbrev pub label : PathAndData → Text
label p = with_or p.relative_path (λ t. t ++ codes ": ") []

abbrev pub labelled : PathAndData → Text
labelled p = label p ++ rendered (data_in p.found)

-- the text of the parameters, of which the first is the call's first or not
abbrev pub line_text : Bool → List PathAndData → Text
line_text first [] = []
line_text first (p ∷ ps) = separator first ++ (labelled p ++ line_text false ps)

-- The level, whose name is read ignoring ASCII case, and the text of the line.
abbrev pub log_line : CallView → Answer (Level × Text)
log_line v =
    with_or (parse_level (level_text v)) (λ level. gives (level, line_text true v.params))
    (fails_for (invalid_logging_level (level_text v)))

-- Worked partials that capture or restore something: the block of a tag, the name, the count, what hash arguments bind.
use Rattle.std.specs.Prelude.{[], ◌∷◌, None, Some, codes}
use Rattle.serde_json.specs.Data.{null, string, object, no_members}
use Rattle.handlebars_base.specs.Bytes.{carriage_return}
use Rattle.handlebars_base.specs.Reasons.{cannot_include_self}
use Rattle.handlebars_template.specs.Tree.{partial_expression, raw_string, decorator, args, no_body, body, no_params, hash_pair, no_hash, name, literal}
use Rattle.handlebars_semantics.specs.Answer.{FromName, GivesText}
use Rattle.handlebars_examples.specs.InclusionExamples.{over_templates, Includes, RenderingFailsAfter, called, unnamed_tree, plain_tag, indented_by, includes, includes_at, includes_with, inline, show, captured_block}
use Rattle.handlebars_examples.specs.Examples.{block, one_name_path, with}
use Rattle.handlebars_examples.specs.ScopeExamples.{array_of}

-- A captured text is written as it is: the tag that asks for it adds no indentation.
abbrev pub AsCapturedExample : Type 0
AsCapturedExample = Includes
    ((codes "l", called (codes "l") (includes_at (indented_by (codes "  ")) (codes "@partial-block") ∷ [])) ∷ []) null
    (unnamed_tree (includes_with (codes "l") (raw_string (codes "x\ny") ∷ []) ∷ [])) (codes "x\ny")

-- The partial is rendered in the state after the tag's block: a local partial that the block sets is found.
abbrev pub SetAheadExample : Type 0
SetAheadExample = Includes ((codes "l", called (codes "l") (includes (codes "p") ∷ captured_block ∷ [])) ∷ []) null
    (unnamed_tree (includes_with (codes "l") (inline (raw_string (codes "L") ∷ []) ∷ raw_string (codes "x") ∷ []) ∷ []))
    (codes "Lx")

-- After a partial call the name is restored, so the template can't include itself.
abbrev pub NameAsBeforeExample : Type 0
NameAsBeforeExample = RenderingFailsAfter
    (over_templates 64 ((codes "p", called (codes "p") (raw_string (codes "x") ∷ [])) ∷ []) null)
    (called (codes "t") (includes (codes "p") ∷ includes (codes "t") ∷ [])) (codes "x")
    (record { reason = cannot_include_self; location = record { name = Some (codes "t"); line = None; column = None } })

-- If nothing is captured, the tag's own block is rendered instead.
abbrev pub DefaultBlockExample : Type 0
DefaultBlockExample =
    Includes [] null (unnamed_tree (includes_with (codes "@partial-block") (raw_string (codes "d") ∷ []) ∷ [])) (codes "d")

-- After a partial call within a partial, the captured text of the outer partial is restored.
abbrev pub CapturedAsBeforeExample : Type 0
CapturedAsBeforeExample = Includes
    ((codes "l", called (codes "l") (includes (codes "q") ∷ captured_block ∷ []))
    ∷ (codes "q", called (codes "q") (raw_string (codes "q") ∷ [])) ∷ [])
    null (unnamed_tree (includes_with (codes "l") (raw_string (codes "d") ∷ []) ∷ [])) (codes "qd")

-- The value of a hash argument is bound to its key, so it is found in blocks within the partial too.
abbrev pub BoundPairExample : Type 0
BoundPairExample = Includes
    ((
      codes "p",
      called (codes "p") (block (codes "each") (one_name_path (codes "a") ∷ [])
          (body (unnamed_tree (show (codes "x") ∷ []))) no_body ∷ []),
    ) ∷ [])
    (with (codes "a") (array_of (object no_members ∷ [])))
    (unnamed_tree (partial_expression (decorator (name (codes "p"))
    (args no_params (hash_pair (codes "x") (literal (string (codes "1"))) no_hash)) no_body plain_tag) ∷ [])) (codes "1")

-- While the block of a tag is rendered ahead, its partial doesn't count toward the limit.
abbrev pub AheadCountExample : Type 0
AheadCountExample = GivesText
    (over_templates 1 ((codes "p", called (codes "p") (captured_block ∷ []))
    ∷ (codes "q", called (codes "q") (raw_string (codes "q") ∷ [])) ∷ []) null)
    (FromName (λ n. Some (unnamed_tree (includes_with (codes "p") (includes (codes "q") ∷ []) ∷ []))) (codes "main")) (codes "q")

-- No indentation is written before a text that begins with the end of a line.
abbrev pub LineEndExample : Type 0
LineEndExample = Includes
    ((codes "p", called (codes "p") (raw_string (carriage_return ∷ codes "\nx\n") ∷ [])) ∷ []) null
    (unnamed_tree (includes_at (indented_by (codes "  ")) (codes "p") ∷ [])) (carriage_return ∷ codes "\n  x\n")

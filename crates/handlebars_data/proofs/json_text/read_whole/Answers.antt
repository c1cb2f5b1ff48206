use Rattle.std.proofs.Common.{◌≡◌, option_and_then, [], ◌∷◌, ap, ◌∙◌, arith, sym, subst}
use Rattle.json.specs.Reads.{token_of}
use Rattle.serde_json.specs.Read.{max_depth}
use Rattle.serde_json.specs.View.{view}
use Rattle.handlebars_data.specs.JsonFaults.{Shows}
use Rattle.handlebars_data.specs.JsonText.{data_of}
use Rattle.handlebars_data.specs.JsonReading.{done, value_from}
use Rattle.handlebars_data.specs.declared.json_value.Fault.TheVariants.{NotJson}
use Rattle.handlebars_data.proofs.JsonTexts.{text_data-done, text_data-stopped, json_of-more, Shows-stopped, some_text}
use Rattle.handlebars_data.proofs.json_text.read_whole.Goals as goal

pub returns-in_err-value-clause-refused : goal.returns-in_err-value-clause-refused
returns-in_err-value-clause-refused c why e =
    let begins = c.in_ok-reader.ensures.ok in
    text_data-stopped c.args.numbers c.args.text.now why (ap (value_from c.args.numbers max_depth) (sym begins) ∙ c.read_value.ensures.stop why (grind arith))

pub returns-in_err-value-clause-reason : goal.returns-in_err-value-clause-reason
returns-in_err-value-clause-reason c why e =
    let begins = c.in_ok-reader.ensures.ok in
    Shows-stopped c.args.numbers c.args.text.now why (ap (value_from c.args.numbers max_depth) (sym begins) ∙ c.read_value.ensures.stop why (grind arith))

pub returns-in_err-value-clause-memory : goal.returns-in_err-value-clause-memory
returns-in_err-value-clause-memory c e = some_text c.args.text.now (rw c.in_ok-reader.ensures.ok at (c.read_value.ensures.memory (grind arith)))

pub returns-in-None-clause-ok : goal.returns-in-None-clause-ok
returns-in-None-clause-ok c =
    let begins = c.in_ok-reader.ensures.ok in
    let ended : c.read_value.new.reader ≡ [] = grind arith in
    text_data-done c.args.numbers c.args.text.now (view c.in_ok-value.value)
    (ap (value_from c.args.numbers max_depth) (sym begins) ∙ c.in_ok-value.ensures.ok ∙ ap (done (view c.in_ok-value.value)) ended)

pub returns-in-Some-clause-refused : goal.returns-in-Some-clause-refused
returns-in-Some-clause-refused c why e =
    let begins = c.in_ok-reader.ensures.ok in
    let more : c.read_value.new.reader ≡ token_of c.in-Some.field-0 ∷ c.next.new.self = grind arith in
    ap (option_and_then (data_of c.args.numbers))
    (json_of-more c.args.numbers c.args.text.now (view c.in_ok-value.value) (token_of c.in-Some.field-0) c.next.new.self
    (ap (value_from c.args.numbers max_depth) (sym begins) ∙ c.in_ok-value.ensures.ok ∙ ap (done (view c.in_ok-value.value)) more))

pub returns-in-Some-clause-reason : goal.returns-in-Some-clause-reason
returns-in-Some-clause-reason c why e =
    let begins = c.in_ok-reader.ensures.ok in
    let same : NotJson ≡ why = cc in
    let more : c.read_value.new.reader ≡ token_of c.in-Some.field-0 ∷ c.next.new.self = grind arith in
    subst (Shows c.args.numbers c.args.text.now) same
    (json_of-more c.args.numbers c.args.text.now (view c.in_ok-value.value) (token_of c.in-Some.field-0) c.next.new.self
    (ap (value_from c.args.numbers max_depth) (sym begins) ∙ c.in_ok-value.ensures.ok ∙ ap (done (view c.in_ok-value.value)) more))

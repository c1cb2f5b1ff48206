use Rattle.std.proofs.Common.{◌∙◌, Some, ap, refl, sym, string_bytes}
use Rattle.std.proofs.lemmas.List.{length-map}
use Rattle.std.proofs.lemmas.Result.{IfErr-weaker, on_ok_weaker}
use Rattle.hb_build.specs.Build.{IsFailure, IsItemFailure}
use Rattle.hb_build.specs.Items.{counted, fate_of}
use Rattle.hb_build.specs.Name.{IsAcceptable, names_of}
use Rattle.hb_build.proofs.Gets.{All-at_get}
use Rattle.hb_build.proofs.NamesOf.{slice_get-text}
use Rattle.hb_build.proofs.OneItem.{IsItemFailure-from, outcome_of-fate_of}
use Rattle.hb_build.proofs.second.build_item.Goals as goal

pub try_item-outcome-requires : goal.try_item-outcome-requires
try_item-outcome-requires g c =
    let xs = c.args.names.now in
    let at = slice_get-text xs c.args.item c.index-names-item.result c.as_str-name.result.now c.requires.within c.index-names-item.is c.as_str-name.ensures.value in
    All-at_get IsAcceptable (names_of xs) c.args.item c.as_str-name.result.now c.requires.acceptable.each at

pub returns : goal.returns
returns g c =
    let xs = c.args.names.now in
    let name = c.as_str-name.result.now in
    let outcome = c.try_item-outcome.result in
    let text = c.try_item-outcome.ensures.0 in
    let fate = fate_of text outcome in
    let placed = c.try_item-outcome.ensures.2 in
    let keep_going = c.args.settings.now.keep_going in
    let same_outcome = sym (outcome_of-fate_of text outcome) in
    record {
      name = name;
      fate = fate;
      same_name = slice_get-text xs c.args.item c.index-names-item.result name c.requires.within c.index-names-item.is c.as_str-name.ensures.value;
      is_fate = c.try_item-outcome.ensures.1;
      done = record {
        found = placed.found;
        stored = placed.stored;
        reported = (c.item.new.self, rw (length-map xs string_bytes, outcome_of-fate_of text outcome) c.item.ensures, refl);
      };
      counts_it = c.count.ensures ∙ ap (λ o. counted o c.args.summary.now) same_outcome;
      goes_on = on_ok_weaker c.stop_unless.result (λ f e. f e text) c.stop_unless.ensures.ok;
      stops = IfErr-weaker c.stop_unless.result (IsFailure keep_going c.args.item name outcome)
          (IsItemFailure keep_going c.args.item (record { name = name; fate = Some fate })) (IsItemFailure-from keep_going c.args.item name text outcome)
          c.stop_unless.ensures.err;
    }

use Rattle.std.proofs.Common.{◌≡◌, ◌∙◌, ◌<◌, [], ◌∷◌, ◌++◌, Some, ap, arith, rules, subst, sym, inl, inr, length, string_bytes}
use Rattle.std.proofs.lemmas.List.{length-map}
use Rattle.std.proofs.lemmas.Result.{err_from_is_err_and}
use Rattle.hb_build.specs.Items.{Item}
use Rattle.hb_build.specs.Name.{names_of}
use Rattle.hb_build.specs.Passes.{IsDone, IsStep, share_of}
use Rattle.hb_build.proofs.NamesOf.{slice_get-names_of, slice_get-text}
use Rattle.hb_build.proofs.SecondPass.{IsSecondPass-push, IsSofar-push, IsSofar-skip, IsStep-from}
use Rattle.hb_build.proofs.Stops.{IsStop-failed, IsStop-stuck}
use Rattle.hb_build.proofs.Totals.{Counts-total}
use Rattle.hb_build.proofs.second.build_items.Goals as goal

pub returns-in_err-skip_item-clause-part : goal.returns-in_err-skip_item-clause-part
returns-in_err-skip_item-clause-part g c =
    let xs = c.args.names.now in
    let i = c.loop-item.item in
    let h = c.loop-item.invariant in
    let p = err_from_is_err_and c.from_residual.result c.from_residual.ensures.1 in
    let within : i < length (names_of xs) = omega (arith, c.loop-item-test.true, length-map xs string_bytes) in
    rw (p.1, p.2) (record {
      items = h.items;
      last = c.loop-item.pages;
      pass = h.pass;
      stop = IsStop-stuck g.P.Pages g.S.Store g.R.Report c.args.settings.now (names_of xs) c.loop-item.pages c.skip_item.new.pages h.items i h.no_failure h.number
          c.in_err-skip_item.field-0.0 (inr (inl (within, search rules, c.in_err-skip_item.ensures.err)));
    })

pub loop-item-preserved-then-not-takes : goal.loop-item-preserved-then-not-takes
loop-item-preserved-then-not-takes g c =
    let xs = c.args.names.now in
    let i = c.loop-item.item in
    let x = c.index-names-item.result in
    IsSofar-skip g.P.Pages g.S.Store g.R.Report c.args.settings.now (names_of xs) c.requires c.args.pages.now c.loop-item.pages c.skip_item.new.pages
    c.args.store.now c.loop-item.store c.args.report.now c.loop-item.report i c.loop-item.summary (string_bytes x) c.loop-item.invariant
    (slice_get-names_of xs i x c.loop-item-test.true c.index-names-item.is) (search rules) c.in_ok-skip_item.ensures.ok

pub returns-in_err-reach-clause-part : goal.returns-in_err-reach-clause-part
returns-in_err-reach-clause-part g c =
    let xs = c.args.names.now in
    let i = c.loop-item.item in
    let h = c.loop-item.invariant in
    let p = err_from_is_err_and c.from_residual-in_err-reach.result c.from_residual-in_err-reach.ensures.1 in
    let at = slice_get-text xs i c.index-names-item.result c.as_str.result.now c.loop-item-test.true c.index-names-item.is c.as_str.ensures.value in
    rw (p.1, p.2) (record {
      items = h.items;
      last = c.loop-item.pages;
      pass = h.pass;
      stop = IsStop-stuck g.P.Pages g.S.Store g.R.Report c.args.settings.now (names_of xs) c.loop-item.pages c.reach.new.pages h.items i h.no_failure h.number
          c.in_err-reach.field-0.0 (inl (c.as_str.result.now, at, search rules, c.in_err-reach.ensures.err));
    })

pub returns-in_err-build_item-clause-part : goal.returns-in_err-build_item-clause-part
returns-in_err-build_item-clause-part g c =
    let xs = c.args.names.now in
    let names = names_of xs in
    let settings = c.args.settings.now in
    let i = c.loop-item.item in
    let h = c.loop-item.invariant in
    let e = c.in_err-build_item.ensures in
    let p = err_from_is_err_and c.from_residual-in_err-build_item.result c.from_residual-in_err-build_item.ensures.1 in
    let at = slice_get-text xs i c.index-names-item.result c.as_str.result.now c.loop-item-test.true c.index-names-item.is c.as_str.ensures.value in
    let item : Item = record { name = e.name; fate = Some e.fate } in
    let step = IsStep-from g.P.Pages g.S.Store g.R.Report settings names i c.loop-item.pages c.reach.new.pages e.name c.as_str.result.now e.fate e.same_name at
    (search rules) c.in_ok-reach.ensures.advanced c.in_ok-reach.ensures.named e.is_fate in
    rw (p.1, p.2) (record {
      items = h.items ++ item ∷ [];
      last = c.reach.new.pages;
      pass = IsSecondPass-push g.P.Pages g.S.Store g.R.Report settings names c.requires c.args.pages.now c.loop-item.pages c.reach.new.pages
          c.args.store.now c.loop-item.store c.build_item.new.store c.args.report.now c.loop-item.report c.build_item.new.report h.items item h.pass
          (subst (λ n. IsStep g.P.Pages g.S.Store settings names n c.loop-item.pages item c.reach.new.pages) (sym h.number) step)
          (subst (λ n. IsDone g.S.Store g.R.Report settings names n item c.loop-item.store c.build_item.new.store c.loop-item.report c.build_item.new.report)
          (sym h.number) e.done);
      stop = IsStop-failed g.P.Pages g.S.Store g.R.Report settings names c.reach.new.pages c.reach.new.pages h.items i h.no_failure h.number
          c.in_err-build_item.field-0.0 item e.stops;
    })

pub loop-item-preserved : goal.loop-item-preserved
loop-item-preserved g c =
    let xs = c.args.names.now in
    let names = names_of xs in
    let settings = c.args.settings.now in
    let i = c.loop-item.item in
    let e = c.in_ok-build_item.ensures in
    let at = slice_get-text xs i c.index-names-item.result c.as_str.result.now c.loop-item-test.true c.index-names-item.is c.as_str.ensures.value in
    let step = IsStep-from g.P.Pages g.S.Store g.R.Report settings names i c.loop-item.pages c.reach.new.pages e.name c.as_str.result.now e.fate e.same_name at
    (search rules) c.in_ok-reach.ensures.advanced c.in_ok-reach.ensures.named e.is_fate in
    IsSofar-push g.P.Pages g.S.Store g.R.Report settings names c.requires c.args.pages.now c.loop-item.pages c.reach.new.pages
    c.args.store.now c.loop-item.store c.build_item.new.store c.args.report.now c.loop-item.report c.build_item.new.report i
    c.loop-item.summary c.build_item.new.summary (record { name = e.name; fate = Some e.fate }) c.loop-item.invariant step e.done e.counts_it e.goes_on

pub returns-clause-whole : goal.returns-clause-whole
returns-clause-whole g c =
    let xs = c.args.names.now in
    let names = names_of xs in
    let h = c.loop-item.invariant in
    let each : length h.items ≡ length names = omega (arith, h.number, c.loop-item-test.false, c.loop-item.auto.item-end, length-map xs string_bytes) in
    record {
      items = h.items;
      last = c.loop-item.pages;
      pass = h.pass;
      ended = c.in_ok-check_end.ensures.ok;
      each = each;
      counted = h.counted;
      total = Counts-total g.P.Pages g.S.Store c.args.settings.now names c.args.pages.now c.loop-item.pages h.items c.loop-item.summary h.pass.given h.counted
          ∙ ap (share_of c.args.settings.now.shard 0) each;
      no_failure = h.no_failure;
    }

use Rattle.std.proofs.Common.{◌⊎◌, inr, sym, subst}
use Rattle.std.proofs.lemmas.Result.{IfOk-weaker, IfErr-weaker}
use Rattle.hb_build.specs.Build.{IsBuilt, IsBuiltInPart, IsPart, IsRefused, IsWhole}
use Rattle.hb_build.specs.Name.{names_of}
use Rattle.hb_build.specs.Passes.{IsFirstPass}
use Rattle.hb_build.proofs.SecondPass.{IsSecondPass-same}
use Rattle.hb_build.proofs.run.build.Goals as goal

pub returns-clause-built : goal.returns-clause-built
returns-clause-built g c =
    let names = names_of c.as_slice-names.result.now in
    let first = c.rewind.new.pages in
    let mid = c.check_ways.new.store in
    let new = c.build_items.new.store in
    let settings = c.args.settings.now in
    let given = subst (λ xs. IsFirstPass g.P.Pages c.args.pages.now (names_of xs) c.collect_names.new.pages) (sym c.as_slice-names.ensures.value) c.in_ok-names.ensures.ok in
    IfOk-weaker c.build_items.result (IsWhole g.P.Pages g.S.Store g.R.Report settings names first c.build_items.new.pages mid new c.args.report.now c.build_items.new.report)
    (IsBuilt g.P.Pages g.S.Store g.R.Report settings c.args.pages.now c.build_items.new.pages c.args.store.now new c.args.report.now c.build_items.new.report)
    (λ summary h. record {
      names = names;
      first = first;
      ready = record {
        mid = c.collect_names.new.pages;
        given = given;
        acceptable = c.in_ok-check_names.ensures.ok;
        clear = λ reliable. c.in_ok-check_ways.ensures.ok (h.pass.stored.was_reliable reliable);
        rewound = c.in_ok-rewind.ensures.ok;
      };
      whole = record {
        items = h.items;
        last = h.last;
        pass = IsSecondPass-same g.P.Pages g.S.Store g.R.Report settings names first h.last c.args.store.now mid new c.args.report.now c.build_items.new.report h.items
            c.in_ok-check_ways.ensures.preserved h.pass;
        ended = h.ended;
        each = h.each;
        counted = h.counted;
        total = h.total;
        no_failure = h.no_failure;
      };
    }) c.build_items.ensures.whole

pub returns-clause-stopped : goal.returns-clause-stopped
returns-clause-stopped g c =
    let names = names_of c.as_slice-names.result.now in
    let first = c.rewind.new.pages in
    let mid = c.check_ways.new.store in
    let new = c.build_items.new.store in
    let settings = c.args.settings.now in
    let old_pages = c.args.pages.now in
    let new_pages = c.build_items.new.pages in
    let before = c.args.report.now in
    let after = c.build_items.new.report in
    let given = subst (λ xs. IsFirstPass g.P.Pages old_pages (names_of xs) c.collect_names.new.pages) (sym c.as_slice-names.ensures.value) c.in_ok-names.ensures.ok in
    IfErr-weaker c.build_items.result (IsPart g.P.Pages g.S.Store g.R.Report settings names first new_pages mid new before after)
    (λ e. IsRefused g.P.Pages g.S.Store g.R.Report settings old_pages new_pages c.args.store.now new before after e
    ⊎ IsBuiltInPart g.P.Pages g.S.Store g.R.Report settings old_pages new_pages c.args.store.now new before after e)
    (λ e h. inr (record {
      names = names;
      first = first;
      ready = record {
        mid = c.collect_names.new.pages;
        given = given;
        acceptable = c.in_ok-check_names.ensures.ok;
        clear = λ reliable. c.in_ok-check_ways.ensures.ok (h.pass.stored.was_reliable reliable);
        rewound = c.in_ok-rewind.ensures.ok;
      };
      part = record {
        items = h.items;
        last = h.last;
        pass = IsSecondPass-same g.P.Pages g.S.Store g.R.Report settings names first h.last c.args.store.now mid new before after h.items
            c.in_ok-check_ways.ensures.preserved h.pass;
        stop = h.stop;
      };
    })) c.build_items.ensures.part

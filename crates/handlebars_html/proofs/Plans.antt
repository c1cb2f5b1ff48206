-- Steps that write as a rule has it, and what that says of their runs.
use Rattle.std.proofs.Common.{◌≡◌, Bool, true, false, List, [], ◌∷◌, ◌++◌, subst, Option, None, Some, unwrap_or}
use Rattle.std.specs.List.{AllByRecursion}
use Rattle.handlebars_base.specs.Answers.{Answer, gives}
use Rattle.handlebars_base.specs.Bytes.{Text}
use Rattle.handlebars_base.specs.Scoped.{Found, present_in}
use Rattle.handlebars_base.specs.Values.{boolean_text}
use Rattle.handlebars_template.specs.Tree.{Tree}
use Rattle.handlebars_scope.specs.LineState.{LineState}
use Rattle.handlebars_scope.specs.Scopes.{Frame}
use Rattle.handlebars_helpers.specs.Escaping.{HasEscaped}
use Rattle.handlebars_helpers.specs.SafeUrl.{is_safe_url}
use Rattle.handlebars_semantics.specs.Inclusion.{partial_for}
use Rattle.handlebars_semantics.specs.Means.{todo}
use Rattle.handlebars_semantics.specs.Occurrences.{Occurrence}
use Rattle.handlebars_semantics.specs.Pieces.{of_text, of_value, of_raw, of_boolean_text, Piece, pieces_put}
use Rattle.handlebars_semantics.specs.Questions.{Reply, IsAnswered}
use Rattle.handlebars_semantics.specs.Runs.{Outcome, Ended, Failed, WriteFailed, NoMemory, IsOver, mark_outcome, Prefix, Runs, done, failed, wrote, got, set, asked, did, did_over, did_capture, did_capture_over, looked, below_limit, at_limit, stop, cut}
use Rattle.handlebars_semantics.specs.State.{Setting, State}
use Rattle.handlebars_semantics.specs.Steps.{Task, One, Whole, Steps, Done, Fail, Write, Get, Set, Ask, Do, Capture, Find, CheckLimit}
use Rattle.handlebars_semantics.specs.Writing.{rendered_if_any}
use Rattle.handlebars_html.specs.Rule.{Rule, Table, Leads, OneLeads}
use Rattle.handlebars_laws.proofs.Outcomes.{in_memory_over, over_marked, stop_over}

-- What a rule says of pieces: which may be written in a state, and to which state they lead. Nothing may be written, pieces
-- may be joined, and cut off where a run stops. And what the rule allows to be written is written so: a text of a template,
-- a value, escaped or not, an address that runs no script, and the text of a boolean helper; or no value at all.
pub record Meaning (p : Setting) (rule : Rule) : Type 1 where
  pub Emits : rule.Known → List Piece → rule.Known → Type 0
  pub nothing : (h : rule.Known) → Emits h [] h
  pub join : {h m g : rule.Known} {xs ys : List Piece} → Emits h xs m → Emits m ys g → Emits h (xs ++ ys) g
  pub prefix : {h g : rule.Known} {xs ys : List Piece} → Prefix xs ys → Emits h ys g → (m : rule.Known) × Emits h xs m
  pub text : (occurrence : Occurrence) (i : Option Text) (t : Text) (line : LineState) (h : rule.Known)
      → rule.MayIndent (unwrap_or i []) → rule.MayText t h
      → Emits h (pieces_put (of_text occurrence) i t line) (rule.after_text t h)
  pub value : (occurrence : Occurrence) (found : Found) (i : Option Text) (t : Text) (line : LineState) (h : rule.Known)
      → rule.MayIndent (unwrap_or i []) → rule.MayValue true h
      → HasEscaped p.parts.escape p.parts.user_escape (rendered_if_any (present_in found)) (gives t)
      → Emits h (pieces_put (of_value occurrence found) i t line) (rule.after_value true h)
  pub raw : (occurrence : Occurrence) (found : Found) (i : Option Text) (line : LineState) (h : rule.Known)
      → rule.MayIndent (unwrap_or i []) → rule.MayValue false h
      → Emits h (pieces_put (of_raw occurrence found) i (rendered_if_any (present_in found)) line) (rule.after_value false h)
  pub url : (occurrence : Occurrence) (found : Found) (i : Option Text) (t : Text) (line : LineState) (h : rule.Known)
      → rule.MayIndent (unwrap_or i []) → rule.MayUrl h → is_safe_url (rendered_if_any (present_in found)) ≡ true
      → HasEscaped p.parts.escape p.parts.user_escape (rendered_if_any (present_in found)) (gives t)
      → Emits h (pieces_put (of_value occurrence found) i t line) (rule.after_url h)
  pub boolean : (occurrence : Occurrence) (b escapes : Bool) (h : rule.Known) → rule.MayValue escapes h
      → Emits h (record { origin = of_boolean_text occurrence b; text = boolean_text b } ∷ []) (rule.after_value escapes h)
  pub no_value : (escapes : Bool) (h : rule.Known) → rule.MayValue escapes h → Emits h [] (rule.after_value escapes h)
  pub no_url : (h : rule.Known) → rule.MayUrl h → Emits h [] (rule.after_url h)
  pub no_indent : rule.MayIndent []
  pub join_indent : (i j : Text) → rule.MayIndent i → rule.MayIndent j → rule.MayIndent (i ++ j)

-- ---- elements to which a run comes

module _ (rule : Rule) where
  -- Of an element what the rule demands holds in some state.
  abbrev pub IsMet : Task → Type 0
  IsMet (One occurrence e) = (h : rule.Known) × rule.Demands e h
  IsMet (Whole at t) = Unit {0}

  -- This holds of each element to which the run comes.
  abbrev pub AreMet : {p : Setting} {k : Steps} {s : State} {ps : List Piece} {o : Outcome} → Runs p k s ps o → Type 0
  AreMet done = Unit {0}
  AreMet failed = Unit {0}
  AreMet (wrote r) = AreMet r
  AreMet (got r) = AreMet r
  AreMet (set r) = AreMet r
  AreMet (asked a i r) = AreMet r
  AreMet (did {t = t} a b) = IsMet t × AreMet a × AreMet b
  AreMet (did_over {t = t} a over) = IsMet t × AreMet a
  AreMet (did_capture a b) = AreMet a × AreMet b
  AreMet (did_capture_over a over) = AreMet a
  AreMet (looked r) = AreMet r
  AreMet (below_limit lt r) = AreMet r
  AreMet (at_limit le) = Unit {0}
  AreMet stop = Unit {0}
  AreMet (cut i f) = Unit {0}

-- ---- plans

module _ (p : Setting) (rule : Rule) (table : Table rule) (meaning : Meaning p rule) where
  abbrev pub IsCaptured : Option (List Piece) → Type 0
  IsCaptured None = Unit {0}
  IsCaptured (Some ps) = meaning.Emits rule.captured ps rule.captured

  -- each partial of a frame leads as the table has it
  abbrev pub IsWellFrame : Frame → Type 0
  IsWellFrame f = (n : Text) (t : Tree) → f.partial n ≡ Some t → (h : rule.Known) → table.enters n h
      → Leads rule table t h (table.leaves n h)

  -- a state of a run, in which escaping is on or off
  pub record IsWell (escapes : Bool) (s : State) : Type 0 where
    pub escaping : s.escapes ≡ escapes
    pub indent : rule.MayIndent (unwrap_or s.indent [])
    pub frames : AllByRecursion IsWellFrame s.blocks
    pub captured : AllByRecursion IsCaptured s.captured
    pub local : (n : Text) → s.local n ≡ None

  abbrev pub TaskLeads : Task → rule.Known → (rule.Known → Type 0) → Type 0
  TaskLeads (One occurrence e) h end = OneLeads rule table e h end
  TaskLeads (Whole at t) h end = Leads rule table t h end

  -- The state may count as one to which nothing leads.
  abbrev pub Widened : (rule.Known → Type 0) → rule.Known → Type 0
  Widened P h = (g : rule.Known) × meaning.Emits h [] g × P g

  -- These steps write so from a state of the rule and of the run on; and where they are done, the first argument holds of the
  -- states to which they came.
  abbrev pub Plan : (rule.Known → State → Type 0) → rule.Known → State → Steps → Type 0
  Plan end h s Done = Widened (λ g. end g s) h
  Plan end h s (Fail r) = Unit {0}
  Plan end h s (Write at_boolean_text ps k) = (g : rule.Known) × meaning.Emits h ps g × Plan end g s k
  Plan end h s (Get f) = Plan end h s (f s)
  Plan end h s (Set z k) = Plan end h z k
  Plan end h s (Ask q f) = (a : Answer (Reply q)) → IsAnswered p s q a → Plan end h s (f a)
  Plan end h s (Do t k) = IsWell true s × Widened (λ g. TaskLeads t g (λ y. (z : State) → IsWell true z → Plan end y z k)) h
  Plan end h s (Capture m f) =
      Widened (λ y. Plan (λ g z. (g ≡ rule.captured)
      × ((ps : List Piece) → meaning.Emits rule.captured ps rule.captured → Plan end y z (f ps))) rule.captured s m) h
  Plan end h s (Find name b f) = Plan end h s (f (partial_for p.parts s name b))
  Plan end h s (CheckLimit k) = Plan end h s k

  pub Plan-widened : (end : rule.Known → State → Type 0) (h g : rule.Known) → meaning.Emits h [] g → (s : State) (k : Steps)
      → Plan end g s k → Plan end h s k
  Plan-widened end h g to s Done is = (is.0, meaning.join to is.1, is.2)
  Plan-widened end h g to s (Fail r) is = tt
  Plan-widened end h g to s (Write at_boolean_text ps k) is = (is.0, meaning.join to is.1, is.2)
  Plan-widened end h g to s (Get f) is = Plan-widened end h g to s (f s) is
  Plan-widened end h g to s (Set z k) is = Plan-widened end h g to z k is
  Plan-widened end h g to s (Ask q f) is = λ a i. Plan-widened end h g to s (f a) (is a i)
  Plan-widened end h g to s (Do t k) is = (is.0, (is.1.0, meaning.join to is.1.1, is.1.2))
  Plan-widened end h g to s (Capture m f) is = (is.0, meaning.join to is.1, is.2)
  Plan-widened end h g to s (Find name b f) is = Plan-widened end h g to s (f (partial_for p.parts s name b)) is
  Plan-widened end h g to s (CheckLimit k) is = Plan-widened end h g to s k is

  -- ---- runs

  abbrev EndsIn : (State → Type 0) → Outcome → Type 0
  EndsIn end (Ended s) = end s
  EndsIn end (Failed r) = Unit {0}
  EndsIn end (WriteFailed f) = Unit {0}
  EndsIn end NoMemory = Unit {0}

  EndsIn-over : (end : State → Type 0) (o : Outcome) → IsOver o → EndsIn end o
  EndsIn-over end (Ended s) over = absurd over
  EndsIn-over end (Failed r) over = tt
  EndsIn-over end (WriteFailed f) over = tt
  EndsIn-over end NoMemory over = tt

  -- What a run wrote leads to some state; if it ended well, what is required of its end holds there.
  pub record Obeys (end : rule.Known → State → Type 0) (h : rule.Known) (ps : List Piece) (o : Outcome) : Type 0 where
    pub to : rule.Known
    pub emits : meaning.Emits h ps to
    pub ends : EndsIn (end to) o

  abbrev pub PlanHolds : Type 1
  PlanHolds = (t : Task) (h : rule.Known) (s : State) (end : rule.Known → Type 0) → TaskLeads t h end → IsWell true s
      → Plan (λ g z. end g × IsWell true z) h s (todo t)

  Obeys-none : (end : rule.Known → State → Type 0) (h : rule.Known) (o : Outcome) → EndsIn (end h) o → Obeys end h [] o
  Obeys-none end h o ends = record { to = h; emits = meaning.nothing h; ends = ends }

  TaskLeads-met : (t : Task) (h : rule.Known) (end : rule.Known → Type 0) → TaskLeads t h end → IsMet rule t
  TaskLeads-met (One occurrence e) h end is = (h, is.0)
  TaskLeads-met (Whole at t) h end is = tt

  module _ (plan : PlanHolds) where
    pub Runs-obeys : {k : Steps} {s : State} {ps : List Piece} {o : Outcome} (r : Runs p k s ps o)
        (end : rule.Known → State → Type 0) (h : rule.Known) → Plan end h s k → Obeys end h ps o × AreMet rule r
    Runs-obeys done end h is = (record { to = is.0; emits = is.1; ends = is.2 }, tt)
    Runs-obeys failed end h is = (Obeys-none end h _ tt, tt)
    Runs-obeys (wrote r) end h is =
        let rest = Runs-obeys r end is.0 is.2 in
        (record { to = rest.0.to; emits = meaning.join is.1 rest.0.emits; ends = rest.0.ends }, rest.1)
    Runs-obeys (got r) end h is = Runs-obeys r end h is
    Runs-obeys (set r) end h is = Runs-obeys r end h is
    Runs-obeys (asked a i r) end h is = Runs-obeys r end h (is a i)
    Runs-obeys (did {s = s} {next = z} {t = t} {k = k} a b) end h is =
        let goes_on = λ (g : rule.Known). (y : State) → IsWell true y → Plan end g y k in
        let part = Runs-obeys a (λ g y. goes_on g × IsWell true y) is.1.0 (plan t is.1.0 s goes_on is.1.2 is.0) in
        let rest = Runs-obeys b end part.0.to (part.0.ends.0 z part.0.ends.1) in (
          record {
            to = rest.0.to;
            emits = meaning.join (meaning.join is.1.1 part.0.emits) rest.0.emits;
            ends = rest.0.ends;
          },
          (TaskLeads-met t is.1.0 goes_on is.1.2, part.1, rest.1),
        )
    Runs-obeys (did_over {s = s} {t = t} {k = k} {o = o} a over) end h is =
        let goes_on = λ (g : rule.Known). (y : State) → IsWell true y → Plan end g y k in
        let part = Runs-obeys a (λ g y. goes_on g × IsWell true y) is.1.0 (plan t is.1.0 s goes_on is.1.2 is.0) in (
          record {
            to = part.0.to;
            emits = meaning.join is.1.1 part.0.emits;
            ends = EndsIn-over (end part.0.to) (mark_outcome t o) (over_marked t o over);
          },
          (TaskLeads-met t is.1.0 goes_on is.1.2, part.1),
        )
    Runs-obeys (did_capture {next = z} {f = f} {ps = ps} a b) end h is =
        let goes_on = λ (y : State). (ws : List Piece) → meaning.Emits rule.captured ws rule.captured → Plan end is.0 y (f ws) in
        let first = Runs-obeys a (λ g y. (g ≡ rule.captured) × goes_on y) rule.captured is.2 in
        let written = subst (λ (g : rule.Known). meaning.Emits rule.captured ps g) first.0.ends.0 first.0.emits in
        let rest = Runs-obeys b end is.0 (first.0.ends.1 ps written) in
        (record { to = rest.0.to; emits = meaning.join is.1 rest.0.emits; ends = rest.0.ends }, (first.1, rest.1))
    Runs-obeys (did_capture_over {f = f} {o = o} a over) end h is =
        let first = Runs-obeys a (λ g y. (g ≡ rule.captured)
        × ((ws : List Piece) → meaning.Emits rule.captured ws rule.captured → Plan end is.0 y (f ws))) rule.captured is.2 in
        (Obeys-none end h o (EndsIn-over (end h) o (in_memory_over o over)), first.1)
    Runs-obeys (looked r) end h is = Runs-obeys r end h is
    Runs-obeys (below_limit lt r) end h is = Runs-obeys r end h is
    Runs-obeys (at_limit le) end h is = (Obeys-none end h _ tt, tt)
    Runs-obeys stop end h is = (Obeys-none end h _ tt, tt)
    Runs-obeys (cut {at_boolean_text = w} {o = o} i f) end h is =
        let first = meaning.prefix f is.1 in
        (record { to = first.0; emits = first.1; ends = EndsIn-over (end first.0) o (stop_over w o i) }, tt)

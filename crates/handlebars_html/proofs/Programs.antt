-- Programs that go on as a rule has it: if what comes next does so from each end, the program does from its beginning.
use Rattle.std.proofs.Common.{◌≡◌, Bool, true, false, List, [], ◌∷◌, refl, sym, subst, Option}
use Rattle.std.specs.List.{AllByRecursion}
use Rattle.handlebars_base.specs.Answers.{Answer, gives, fails}
use Rattle.handlebars_base.specs.Bytes.{Text}
use Rattle.handlebars_base.specs.Scoped.{Found, present_in}
use Rattle.handlebars_template.specs.Tree.{Body, no_body, body}
use Rattle.handlebars_scope.specs.LineState.{LineState}
use Rattle.handlebars_scope.specs.Scopes.{Frame}
use Rattle.handlebars_helpers.specs.SafeUrl.{is_safe_url}
use Rattle.handlebars_semantics.specs.Execute.{in_scope_frame, render_branch}
use Rattle.handlebars_semantics.specs.Means.{without_escaping, on_line}
use Rattle.handlebars_semantics.specs.Occurrences.{TreeOccurrence, Occurrence}
use Rattle.handlebars_semantics.specs.Pieces.{Origin, of_text, of_value, of_raw, pieces_put}
use Rattle.handlebars_semantics.specs.Questions.{Question, Reply, escape_of, IsAnswered}
use Rattle.handlebars_semantics.specs.State.{Setting, State, push_frame, pop_frame, outer_frames, nearest_as}
use Rattle.handlebars_semantics.specs.Steps.{Steps, Get, Set, Prog, return, ◌>>=◌, ◌>>◌, answer}
use Rattle.handlebars_semantics.specs.Writing.{write_text, rendered_if_any, write_rendered, write_value, write_boolean_text}
use Rattle.handlebars_html.specs.Rule.{Rule, Table, BranchLeads}
use Rattle.handlebars_html.proofs.Plans.{Meaning, IsWellFrame, IsWell, Plan, Plan-widened}
use Rattle.handlebars_html.proofs.Weaker.{Leads-weaker}

module _ (p : Setting) (rule : Rule) (table : Table rule) (meaning : Meaning p rule) where
  abbrev Well : Bool → State → Type 0
  Well e s = IsWell p rule table meaning e s

  abbrev AreWellFrames : List Frame → Type 0
  AreWellFrames fs = AllByRecursion (IsWellFrame p rule table meaning) fs

  -- ---- states

  pub line-well : {e : Bool} {s : State} (l : LineState) → Well e s → Well e (record s { line = l })
  line-well l w =
      record { escaping = w.escaping; indent = w.indent; frames = w.frames; captured = w.captured; local = w.local }

  pub name-well : {e : Bool} {s : State} (n : Option Text) → Well e s → Well e (record s { current = n })
  name-well n w =
      record { escaping = w.escaping; indent = w.indent; frames = w.frames; captured = w.captured; local = w.local }

  pub blocks-well : {e : Bool} {s : State} (fs : List Frame) → Well e s → AreWellFrames fs → Well e (record s { blocks = fs })
  blocks-well fs w frames =
      record { escaping = w.escaping; indent = w.indent; frames = frames; captured = w.captured; local = w.local }

  pub escapes-well : {e : Bool} {s : State} (b : Bool) → Well e s → Well b (record s { escapes = b })
  escapes-well b w = record { escaping = refl; indent = w.indent; frames = w.frames; captured = w.captured; local = w.local }

  pub outer-well : (fs : List Frame) → AreWellFrames fs → AreWellFrames (outer_frames fs)
  outer-well [] all = tt
  outer-well (f ∷ fs) all = all.1

  pub nearest-well : (change : Frame → Frame) (fs : List Frame)
      → ((f : Frame) → IsWellFrame p rule table meaning f → IsWellFrame p rule table meaning (change f))
      → AreWellFrames fs → AreWellFrames (nearest_as change fs)
  nearest-well change [] to all = tt
  nearest-well change (f ∷ fs) to all = (to f all.0, all.1)

  -- ---- programs

  -- From a state of the rule and of the run, in which escaping is on or off, the program goes on to an end.
  abbrev pub Goes : Bool → (rule.Known → Type 0) → rule.Known → State → Prog (Unit {0}) → Type 1
  Goes e end h s m = Well e s → (last : rule.Known → State → Type 0) (next : Unit {0} → Steps)
      → ((g : rule.Known) (z : State) → end g → Well e z → Plan p rule table meaning last g z (next tt))
      → Plan p rule table meaning last h s (m next)

  pub answer-goes : (last : rule.Known → State → Type 0) (h : rule.Known) (s : State) (q : Question) (f : Reply q → Steps)
      → ((v : Reply q) → IsAnswered p s q (gives v) → Plan p rule table meaning last h s (f v))
      → (a : Answer (Reply q)) → IsAnswered p s q a → Plan p rule table meaning last h s (answer a f)
  answer-goes last h s q f to (gives v) is = to v is
  answer-goes last h s q f to (fails r) is = tt

  pub return-goes : (e : Bool) (end : rule.Known → Type 0) (h : rule.Known) (s : State) → end h → Goes e end h s (return tt)
  return-goes e end h s is w last next g = g h s is w

  -- a program that comes back to its state, and so to each end that holds there
  pub same-goes : (e : Bool) (end : rule.Known → Type 0) (h : rule.Known) (s : State) (m : Prog (Unit {0})) → end h
      → Goes e (λ g. g ≡ h) h s m → Goes e end h s m
  same-goes e end h s m is inner w last next g =
      inner w last next (λ y z same wz. g y z (subst end (sym same) is) wz)

  -- ... or to each end that holds in a state to which nothing leads
  nothing-goes : (e : Bool) (end : rule.Known → Type 0) (h x : rule.Known) (s : State) (m : Prog (Unit {0}))
      → meaning.Emits h [] x → end x → Goes e (λ g. g ≡ h) h s m → Goes e end h s m
  nothing-goes e end h x s m emits is inner w last next g =
      inner w last next (λ y z same wz.
      subst (λ (k : rule.Known). Plan p rule table meaning last k z (next tt)) (sym same)
      (Plan-widened p rule table meaning last h x emits z (next tt) (g _ z is wz)))

  -- ... after a value that isn't there
  pub no_value-goes : (e : Bool) (end : rule.Known → Type 0) (h : rule.Known) (s : State) (m : Prog (Unit {0}))
      → rule.MayValue e h → end (rule.after_value e h) → Goes e (λ g. g ≡ h) h s m → Goes e end h s m
  no_value-goes e end h s m may is inner =
      nothing-goes e end h (rule.after_value e h) s m (meaning.no_value e h may) is inner

  -- ... and after an address that isn't there
  pub no_url-goes : (end : rule.Known → Type 0) (h : rule.Known) (s : State) (m : Prog (Unit {0}))
      → rule.MayUrl h → end (rule.after_url h) → Goes true (λ g. g ≡ h) h s m → Goes true end h s m
  no_url-goes end h s m may is inner = nothing-goes true end h (rule.after_url h) s m (meaning.no_url h may) is inner

  pub in_scope_frame-goes : (e : Bool) (end : rule.Known → Type 0) (h : rule.Known) (s : State) (f : Frame)
      (m : Prog (Unit {0})) → IsWellFrame p rule table meaning f → Goes e end h (push_frame f s) m
      → Goes e end h s (in_scope_frame f m)
  unfolding ◌>>=◌ ◌>>◌
  in_scope_frame-goes e end h s f m frame inner w last next g =
      inner (blocks-well (f ∷ s.blocks) w (frame, w.frames)) last (λ u. Get (λ n. Set (pop_frame n) (next tt)))
      (λ y z is wz. g y (pop_frame z) is (blocks-well (outer_frames z.blocks) wz (outer-well z.blocks wz.frames)))

  pub on_line-goes : (e : Bool) (end : rule.Known → Type 0) (h : rule.Known) (s : State) (enter : LineState → LineState)
      (m : Prog (Unit {0})) → Goes e end h (record s { line = enter s.line }) m → Goes e end h s (on_line enter m)
  unfolding ◌>>=◌ ◌>>◌
  on_line-goes e end h s enter m inner w last next g =
      inner (line-well (enter s.line) w) last _ (λ y z is wz. g y _ is (line-well _ wz))

  pub without_escaping-goes : (end : rule.Known → Type 0) (h : rule.Known) (s : State) (m : Prog (Unit {0}))
      → Goes false end h (record s { escapes = false }) m → Goes true end h s (without_escaping m)
  unfolding ◌>>=◌ ◌>>◌
  without_escaping-goes end h s m inner w last next g =
      inner (escapes-well false w) last _ (λ y z is wz.
      g y _ is (subst (λ (b : Bool). Well b (record z { escapes = s.escapes })) w.escaping (escapes-well s.escapes wz)))

  pub render_branch-goes : (end : rule.Known → Type 0) (h : rule.Known) (s : State) (at : TreeOccurrence) (b : Body)
      → BranchLeads rule table b h end → Goes true end h s (render_branch at b)
  render_branch-goes end h s at no_body is w last next g = g h s is w
  render_branch-goes end h s at (body t) is w last next g =
      (w, (h, meaning.nothing h, Leads-weaker rule table t h end _ (λ y e z wz. g y z e wz) is))

  -- ---- what is written

  write_text-goes : (e : Bool) (end : rule.Known → Type 0) (h : rule.Known) (g : rule.Known) (s : State) (o : Origin) (t : Text)
      → (Well e s → meaning.Emits h (pieces_put o s.indent t s.line) g) → end g → Goes e end h s (write_text o t)
  unfolding ◌>>=◌ ◌>>◌
  write_text-goes e end h g s o t emits is w last next goes_on = (g, emits w, goes_on g _ is (line-well _ w))

  pub template_text-goes : (end : rule.Known → Type 0) (h : rule.Known) (s : State) (occurrence : Occurrence) (t : Text)
      → rule.MayText t h → end (rule.after_text t h) → Goes true end h s (write_text (of_text occurrence) t)
  template_text-goes end h s occurrence t may is =
      write_text-goes true end h (rule.after_text t h) s (of_text occurrence) t
      (λ w. meaning.text occurrence s.indent t s.line h w.indent may) is

  write_rendered-goes : (e : Bool) (end : rule.Known → Type 0) (h : rule.Known) (s : State) (occurrence : Occurrence) (found : Found)
      → rule.MayValue e h → end (rule.after_value e h) → (b : Bool) → b ≡ e → Goes e end h s (write_rendered occurrence found b)
  unfolding ◌>>=◌
  write_rendered-goes true end h s occurrence found may is true same = λ w last next g.
      answer-goes last h s (escape_of (rendered_if_any (present_in found))) _ (λ t has.
      write_text-goes true end h (rule.after_value true h) s (of_value occurrence found) t
      (λ wz. meaning.value occurrence found s.indent t s.line h wz.indent may has) is w last next g)
  write_rendered-goes false end h s occurrence found may is false same =
      write_text-goes false end h (rule.after_value false h) s (of_raw occurrence found) (rendered_if_any (present_in found))
      (λ w. meaning.raw occurrence found s.indent s.line h w.indent may) is
  write_rendered-goes true end h s occurrence found may is false same = cc
  write_rendered-goes false end h s occurrence found may is true same = cc

  pub write_value-goes : (e : Bool) (end : rule.Known → Type 0) (h : rule.Known) (s : State) (occurrence : Occurrence) (found : Found)
      → rule.MayValue e h → end (rule.after_value e h) → Goes e end h s (write_value occurrence found)
  unfolding ◌>>=◌
  write_value-goes e end h s occurrence found may is w last next g =
      write_rendered-goes e end h s occurrence found may is s.escapes w.escaping w last next g

  write_url-as : (end : rule.Known → Type 0) (h : rule.Known) (s : State) (occurrence : Occurrence) (found : Found)
      → is_safe_url (rendered_if_any (present_in found)) ≡ true → rule.MayUrl h → end (rule.after_url h) → (b : Bool) → b ≡ true
      → Goes true end h s (write_rendered occurrence found b)
  unfolding ◌>>=◌
  write_url-as end h s occurrence found safe may is true same = λ w last next g.
      answer-goes last h s (escape_of (rendered_if_any (present_in found))) _ (λ t has.
      write_text-goes true end h (rule.after_url h) s (of_value occurrence found) t
      (λ wz. meaning.url occurrence found s.indent t s.line h wz.indent may safe has) is w last next g)
  write_url-as end h s occurrence found safe may is false same = cc

  -- a value that is an address
  pub write_url-goes : (end : rule.Known → Type 0) (h : rule.Known) (s : State) (occurrence : Occurrence) (found : Found)
      → is_safe_url (rendered_if_any (present_in found)) ≡ true → rule.MayUrl h → end (rule.after_url h)
      → Goes true end h s (write_value occurrence found)
  unfolding ◌>>=◌
  write_url-goes end h s occurrence found safe may is w last next g =
      write_url-as end h s occurrence found safe may is s.escapes w.escaping w last next g

  pub write_boolean_text-goes : (e : Bool) (end : rule.Known → Type 0) (h : rule.Known) (s : State) (occurrence : Occurrence) (b : Bool)
      → rule.MayValue e h → end (rule.after_value e h) → Goes e end h s (write_boolean_text occurrence b)
  write_boolean_text-goes e end h s occurrence b may is w last next g =
      (rule.after_value e h, meaning.boolean occurrence b e h may, g _ s is w)

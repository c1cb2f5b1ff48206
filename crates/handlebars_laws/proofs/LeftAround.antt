-- A tree's run that ends well preserves what surrounds it.
use Rattle.std.proofs.Common.{◌≡◌, ℕ, zero, suc, List, [], ◌∷◌, length, refl, ap, ◌∙◌, Option, arith}
use Rattle.handlebars_base.specs.Bytes.{Text}
use Rattle.handlebars_scope.specs.Scopes.{Frame}
use Rattle.handlebars_helpers.specs.Iterations.{iteration_frame}
use Rattle.handlebars_semantics.specs.Inclusion.{begin_inclusion, end_inclusion}
use Rattle.handlebars_semantics.specs.Laws.{PreservedPart, preserved_part, LeavesAround}
use Rattle.handlebars_semantics.specs.Pieces.{Piece}
use Rattle.handlebars_semantics.specs.Occurrences.{first_tree}
use Rattle.handlebars_semantics.specs.State.{Setting, State, push_frame, pop_frame, outer_frames, nearest_as, with_nearest, with_partial}
use Rattle.handlebars_semantics.specs.Steps.{Whole}
use Rattle.handlebars_laws.proofs.Closed.{MayCapture-any, Closed}
use Rattle.handlebars_laws.proofs.Law.{Law, IsSound, Runs-obeys}
use Rattle.handlebars_laws.proofs.Walk.{todo-holds}

-- ---- the law: of a state after another alone

abbrev pub leaves_it : Law
leaves_it = record {
  IsWell = λ s. Unit {0};
  IsNext = λ s n. preserved_part n ≡ preserved_part s;
  MayEnter = λ f. Unit {0};
  ComesTo = λ occurrence e s. Unit {0};
  Fits = λ occurrence b s. Unit {0};
  Begins = λ t s. Unit {0};
  IsPart = λ x m s t. Unit {0};
  IsAfter = λ t s n. preserved_part n ≡ preserved_part s;
  IsAmid = λ x i s n. preserved_part n ≡ preserved_part s;
  MayFail = λ r. Unit {0};
  MayWrite = λ ps. Unit {0};
  AreKnown = λ vs. Unit {0};
  AreIn = λ x n m vs. Unit {0};
}

pub leaves_it-sound : IsSound leaves_it
leaves_it-sound = record {
  part_begins = λ h. tt;
  none_written = tt;
  join_written = λ xs ys a b. tt;
  prefix_written = λ f h. tt;
  first_known = λ xs ys h. tt;
  later_known = λ xs ys h. tt;
  none_in = λ x n. tt;
  part_in = λ x t n m i s vs le is h. tt;
  join_in = λ x n m i xs ys le far a b. tt;
}

-- ---- scope frames

less_one : ℕ → ℕ
less_one zero = zero
less_one (suc n) = n

length-outer_frames : (fs : List Frame) → length (outer_frames fs) ≡ less_one (length fs)
unfolding less_one
length-outer_frames [] = refl
length-outer_frames (f ∷ fs) = refl

length-nearest_as : (change : Frame → Frame) (fs : List Frame) → length (nearest_as change fs) ≡ length fs
length-nearest_as change [] = refl
length-nearest_as change (f ∷ fs) = refl

abbrev with_blocks : PreservedPart → ℕ → PreservedPart
with_blocks a n = record a { blocks = n }

preserved_part-pop_frame : (s n : State) (f : Frame) → preserved_part n ≡ preserved_part (push_frame f s) → preserved_part (pop_frame n) ≡ preserved_part s
unfolding less_one
preserved_part-pop_frame s n f is =
    ap (with_blocks (preserved_part n)) (length-outer_frames n.blocks)
    ∙ ap (λ (a : PreservedPart). with_blocks a (less_one a.blocks)) is

preserved_part-with_nearest : (change : Frame → Frame) (s : State) → preserved_part (with_nearest change s) ≡ preserved_part s
preserved_part-with_nearest change s = ap (with_blocks (preserved_part s)) (length-nearest_as change s.blocks)

-- what surrounds a state after an inclusion, by what surrounded it within the inclusion
abbrev back_in : State → PreservedPart → PreservedPart
back_in s a = record a { blocks = less_one a.blocks; indent = s.indent; captured = s.captured; inclusions = s.inclusions }

preserved_part-end_inclusion : (s n z : State) (f : Frame) (indent : Option Text) (k : Option (List Piece))
    → preserved_part n ≡ preserved_part (push_frame f s) → preserved_part z ≡ preserved_part (begin_inclusion indent k n) → preserved_part (end_inclusion s z) ≡ preserved_part s
unfolding less_one
preserved_part-end_inclusion s n z f indent k first last =
    ap (with_blocks (preserved_part (end_inclusion s z))) (length-outer_frames z.blocks) ∙ ap (back_in s) last ∙ ap (back_in s) first

-- ---- all that templates do preserves it

pub leaves_it-closed : (p : Setting) → Closed p leaves_it
leaves_it-closed p = record {
  same_next = λ h. refl;
  then_next = λ a b. b ∙ a;
  next_well = λ h. tt;
  next_fits = λ h is. tt;
  line_next = λ l h. refl;
  data_next = λ d h. refl;
  local_next = λ name l tagged acts has h. refl;
  no_local_next = λ name tagged acts has h. refl;
  iteration_next = λ {s = s} path b t h. preserved_part-with_nearest (iteration_frame path b t) s;
  partial_next = λ {s = s} {name = name} {x = x} tagged sets h. preserved_part-with_nearest (with_partial name x) s;
  block_well = λ may h. tt;
  block_fits = λ h. tt;
  block_next = λ {s = s} {n = n} {f = f} is. preserved_part-pop_frame s n f is;
  empty_enters = tt;
  with_enters = λ base b variables. tt;
  inclusion_enters = λ d hs variables. tt;
  passed_enters = λ i called chooses is. tt;
  raw_well = λ h. tt;
  raw_comes = λ h. tt;
  raw_next = λ {s = s} is. ap (λ (a : PreservedPart). record a { escapes = s.escapes }) is;
  own_next = λ {s = s} h is. ap (λ (a : PreservedPart). record a { indent = s.indent }) is;
  newest_captured = λ h. MayCapture-any _;
  begun_well = λ h may. tt;
  over_next = λ {s = s} {n = n} {z = z} {f = f} {i = i} {k = k} h first last. preserved_part-end_inclusion s n z f i k first last;
  begins_well = λ h. tt;
  begins_comes = λ h known. tt;
  begins_fits = λ h is. tt;
  begins_raw = λ h. tt;
  element_part = λ i h is after. tt;
  body_part = λ i comes call is fits h. tt;
  inverse_part = λ i comes is fits h. tt;
  block_part = λ tagged alone is fits h. tt;
  local_part = λ f tagged finds well is fits fit was h. tt;
  registered_part = λ f tagged finds fits fit was h. tt;
  own_block_part = λ tagged finds is fits fit h. tt;
  body_next = λ comes call is over. over;
  inverse_next = λ comes is over. over;
  ahead_next = λ tagged is over. over;
  element_after = λ comes plain is. is;
  decorator_after = λ tagged acts is. is;
  amid_first = λ h. refl;
  amid_next = λ i amid is over. over ∙ amid;
  amid_last = λ i amid is. amid;
  fails = λ comes failed. tt;
  text_written = λ comes fits h. tt;
  value_written = λ t called has fits is shows h. tt;
  raw_written = λ called has fits is h. tt;
  boolean_text_written = λ b called says. tt;
  step_written = λ i t called answers is. tt;
}

pub leaves_around : (p : Setting) → LeavesAround p
leaves_around p t s n ps r = (Runs-obeys p leaves_it leaves_it-sound (todo-holds p leaves_it (leaves_it-closed p)) r
    (Whole first_tree t) (λ j z. preserved_part z ≡ preserved_part s) 0 (0, omega arith, tt, λ z is. is) tt).ends

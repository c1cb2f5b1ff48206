-- Blind elements and trees do the same, up to texts, in states that are equal up to texts, so that their runs over data that
-- is equal up to texts are.
use Rattle.std.proofs.Common.{ℕ, ◌+◌, true, List, refl}
use Rattle.handlebars_template.specs.Position.{Position}
use Rattle.handlebars_template.specs.Tree.{Tree, tree, Elements, no_elements, element, Element, raw_string, html_expression, escaped_expression, helper_block, decorator_expression, decorator_block, partial_expression, partial_block, comment, call, decorator, bodies}
use Rattle.handlebars_semantics.specs.Means.{render_element, render_elements, todo}
use Rattle.handlebars_semantics.specs.Pieces.{Piece, of_text}
use Rattle.handlebars_semantics.specs.Runs.{Outcome, Means}
use Rattle.handlebars_semantics.specs.Occurrences.{TreeOccurrence, first_tree, Occurrence}
use Rattle.handlebars_semantics.specs.State.{Setting, State, first_state}
use Rattle.handlebars_semantics.specs.Steps.{Task, One, Whole, Done, Do, ◌>>=◌, ◌>>◌}
use Rattle.handlebars_laws.proofs.RunLaws.{IsNotStopped}
use Rattle.handlebars_markup.specs.Blind.{IsBlindTree, IsBlindElement, AreBlindElements}
use Rattle.handlebars_markup.specs.TwoRuns.{registrations}
use Rattle.handlebars_markup.proofs.AlikeRuns.{IsBlindTask, DoAlike, RunsAlike, runs_alike}
use Rattle.handlebars_markup.proofs.Calls.{render_call-alike, render_expression-alike}
use Rattle.handlebars_markup.proofs.Decorators.{render_decorator-alike}
use Rattle.handlebars_markup.proofs.Inclusions.{render_partial-alike}
use Rattle.handlebars_markup.proofs.Programs.{AreSides, LeadAlike, write_text-alike}
use Rattle.handlebars_markup.proofs.States.{current-alike, first_state-alike}
use Rattle.handlebars_markup.proofs.TwoSettings.{HasTwin}

module _ (p : Setting) (w : HasTwin p) where
  render_element-alike : (s t : State) (occurrence : Occurrence) (e : Element) → AreSides p w s t
      → IsBlindElement (registrations p.parts) e → LeadAlike p w s (render_element occurrence e) t (render_element occurrence e)
  render_element-alike s t occurrence (raw_string x) h k =
      write_text-alike p w s t (of_text occurrence) (of_text occurrence) x x h refl refl
  render_element-alike s t occurrence (html_expression c) h k = absurd k
  render_element-alike s t occurrence (escaped_expression (call n xs b (bodies x y) marks)) h k =
      render_expression-alike p w occurrence (call n xs b (bodies x y) marks) k.0 k.1 k.2.0 k.2.1 s t h
  render_element-alike s t occurrence (helper_block (call n xs b (bodies x y) marks)) h k =
      render_call-alike p w occurrence (call n xs b (bodies x y) marks) k.0 k.1 k.2.0 k.2.1 s t true h
  render_element-alike s t occurrence (decorator_expression (decorator n xs b marks)) h k =
      render_decorator-alike p w s t (decorator n xs b marks) h k.0 k.1 k.2 k.3
  render_element-alike s t occurrence (decorator_block (decorator n xs b marks)) h k =
      render_decorator-alike p w s t (decorator n xs b marks) h k.0 k.1 k.2 k.3
  render_element-alike s t occurrence (partial_expression (decorator n xs b marks)) h k =
      render_partial-alike p w (decorator n xs b marks) k.1 k.4 k.2 s t occurrence h k.0 k.3
  render_element-alike s t occurrence (partial_block (decorator n xs b marks)) h k =
      render_partial-alike p w (decorator n xs b marks) k.1 k.4 k.2 s t occurrence h k.0 k.3
  render_element-alike s t occurrence (comment x) h k = λ next next' g. g s t h

  render_elements-alike : (s t : State) (at : TreeOccurrence) (i : ℕ) (es : Elements) (positions : List Position) → AreSides p w s t
      → AreBlindElements (registrations p.parts) es
      → LeadAlike p w s (render_elements at i es positions) t (render_elements at i es positions)
  unfolding ◌>>◌
  render_elements-alike s t at i no_elements positions h k next next' g = g s t h
  render_elements-alike s t at i (element e es) positions h k next next' g =
      (refl, k.0, h, λ n n' a. render_elements-alike n n' at (i + 1) es positions a k.1 next next' g)

  todo-alike : (x : Task) (s t : State) → IsBlindTask p x → AreSides p w s t → DoAlike p w s (todo x) t (todo x)
  unfolding ◌>>=◌ ◌>>◌
  todo-alike (One occurrence e) s t k h = render_element-alike s t occurrence e h k (λ z. Done) (λ z. Done) (λ n n' a. a)
  todo-alike (Whole at (tree n es positions)) s t k h =
      render_elements-alike (record s { current = n }) (record t { current = n }) at 0 es positions
      (current-alike (registrations p.parts) s t n h) k (λ z. Done) (λ z. Done) (λ m m' a. a)

  -- A blind tree's run, from the first state on, has one over the other data that is equal to it up to texts.
  pub has_run_alike : (t : Tree) → IsBlindTree (registrations p.parts) t → (ps : List Piece) (o : Outcome)
      → Means p t (first_state p.parts.recursive) ps o → IsNotStopped o
      → RunsAlike p w (first_state p.parts.recursive) (Do (Whole first_tree t) Done) ps o
  has_run_alike t blind ps o r whole =
      runs_alike p w todo-alike r whole (Do (Whole first_tree t) Done) (first_state p.parts.recursive)
      (refl, blind, first_state-alike (registrations p.parts) p.parts.recursive, λ n m a. a)

-- Going through a text step by step, each step with what it finds.
use Rattle.std.specs.Prelude.{ℕ, zero, suc, List, [], ◌∷◌, Option, Some, None}
use Rattle.handlebars_base.specs.Bytes.{Text}

-- one step: what it finds, where it leads and what is left; or all is read; or nothing fits
pub data ReadingStep (E S : Type 0) : Type 0 where
  goes : E → S → Text → ReadingStep E S
  ends : ReadingStep E S
  stuck : ReadingStep E S

-- case distinction on the step
abbrev pub on_step : {E S A : Type 0} → ReadingStep E S → (E → S → Text → A) → A → A → A
on_step (goes x s t) going ended other = going x s t
on_step ends going ended other = ended
on_step stuck going ended other = other

-- with one more finding at the start
abbrev pub found : {E : Type 0} → E → Option (List E × Text) → Option (List E × Text)
found x None = None
found x (Some r) = Some (x ∷ r.0, r.1)

-- what at most this many steps find up to the end, and what is left there
abbrev pub read_all : {E S : Type 0} → (S → Text → ReadingStep E S) → ℕ → S → Text → Option (List E × Text)
read_all step zero s t = None
read_all step (suc k) s t = on_step (step s t) (λ x s' t'. found x (read_all step k s' t')) (Some ([], t)) None

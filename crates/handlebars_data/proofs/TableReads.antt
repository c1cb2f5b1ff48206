-- The records of a table, one after another.
use Rattle.std.proofs.Common.{◌≡◌, ◌≢◌, ℕ, ◌+◌, if◌then◌else◌, IsSomeAnd, IfErr, List, [], ◌∷◌, ◌++◌, length, map, Bor, Bool, true, false, not, true≢false, Option, Some, None, ◌⊎◌, inl, inr, All, Result, Ok, Err, refl, sym, ap, ◌∙◌, arith, rules}
use Rattle.std.specs.Bool.{MatchBool}
use Rattle.std.proofs.lemmas.List.{length_push, map_push}
use Rattle.std.proofs.lemmas.List.Elements.{All-push}
use Rattle.csv.specs.Machine.{Read, next_record}
use Rattle.csv.specs.Reading.{NextIs, ReadRecord, ReadsNext, Reached, TookRecord, reader_config, reader_state, source_of, strip_bom}
use Rattle.csv.specs.Records.{AllText}
use Rattle.csv.specs.declared.parser.Config.{Config}
use Rattle.csv.specs.declared.parser.State.{State}
use Rattle.csv.specs.declared.parser.State.TheVariants as state
use Rattle.csv.specs.declared.reader.Reader.{Reader}
use Rattle.csv.proofs.ReadFacts.{rows-more, rows-end}
use Rattle.serde_json.specs.Data.{array, null}
use Rattle.serde_json.specs.View.{items_of, view}
use Rattle.serde_json.specs.declared.value.Value.{Value, Null, the_lemmas}
use Rattle.handlebars_data.specs.Rows.{HasBadRecord, IsGoodRow, IsTable, row_object, row_of, row_over, table_config}
use Rattle.handlebars_data.specs.RowsView.{ExplainsRow, IsBadHeader, IsHeader, IsNextRow, rows_ended, rows_fields, rows_names, rows_number, rows_reader}
use Rattle.handlebars_data.specs.Counts.{counted}
use Rattle.handlebars_data.specs.Stopping.{stops_reading}
use Rattle.handlebars_data.specs.Errors.{IsMemory, kind_of}
use Rattle.handlebars_data.specs.declared.error.DataError.{DataError}
use Rattle.handlebars_data.specs.declared.error.DataErrorKind.{DataErrorKind}
use Rattle.handlebars_data.specs.declared.error.DataErrorKind.TheVariants.{Expected, TooDeep, NumberTooLarge, NumberNotInteger, NotUtf8, RaggedRow, FieldNotUtf8, Toml, Io, OutOfMemory}
use Rattle.handlebars_data.specs.declared.rows.Delimiter.{Delimiter}
use Rattle.handlebars_data.specs.declared.rows.Rows.{Rows}

-- the bytes of a slice
abbrev pub rest_of : Bor (List ℕ) → Option (List ℕ)
rest_of s = Some s.now

next_some : (o : Option Read) (fields : List (List ℕ)) (s : State) (left : List ℕ) → NextIs o true fields s left → o ≡ Some (fields, s, left)
next_some None fields s left is = absurd (true≢false is)
next_some (Some p) fields s left is = rw (is.1, is.2, is.3)

next_none : (o : Option Read) (fields : List (List ℕ)) (s : State) (left : List ℕ) → NextIs o false fields s left → o ≡ None
next_none None fields s left is = refl
next_none (Some p) fields s left is = absurd (true≢false (sym is.0))

-- a record that was read from known bytes
took : (cfg : Config) (a b : State) (left : List ℕ) (after : Option (List ℕ)) (fields : List (List ℕ)) → ReadsNext cfg a (Some left) after true fields b
    → (rest : List ℕ) × (after ≡ Some rest) × (next_record cfg a [] [] left ≡ Some (fields, b, rest))
took cfg a b left None fields reads = absurd reads
took cfg a b left (Some rest) fields reads = (rest, refl, next_some _ fields b rest reads)

took_none : (cfg : Config) (a b : State) (left : List ℕ) (after : Option (List ℕ)) (fields : List (List ℕ)) → ReadsNext cfg a (Some left) after false fields b
    → next_record cfg a [] [] left ≡ None
took_none cfg a b left None fields reads = absurd reads
took_none cfg a b left (Some rest) fields reads = next_none _ fields b rest reads

reached_one_more : (cfg : Config) (s a b : State) (text left rest : List ℕ) (records : List (List (List ℕ))) (fields : List (List ℕ)) → Reached cfg s text records a left
    → next_record cfg a [] [] left ≡ Some (fields, b, rest) → Reached cfg s text (records ++ fields ∷ []) b rest
unfolding Reached
reached_one_more cfg s a b text left rest [] fields so_far next = ((fields, b, rest), rw (so_far.0, so_far.1) next, refl, (refl, refl))
reached_one_more cfg s a b text left rest (r ∷ rs) fields so_far next =
    (so_far.0, so_far.1, so_far.2, reached_one_more cfg so_far.0.1 a b so_far.0.2 left rest rs fields so_far.3 next)

-- the rows so far, and their objects
pub record Progress (d : Delimiter) (text : List ℕ) (names : List (List ℕ)) (reader : Reader (Bor (List ℕ))) (number : ℕ) (items : List Value) : Type 0 where
  pub done : List (List (List ℕ))
  pub left : List ℕ
  pub source : source_of rest_of reader ≡ Some left
  pub reached : Reached (table_config d) state.StartRecord (strip_bom text) (names ∷ done) (reader_state reader) left
  pub good : All (IsGoodRow names) done
  pub values : map view items ≡ map (row_object names) done
  pub rows : number ≡ counted (length done + 1)

-- there is no header
abbrev pub IsEmptyText : Delimiter → List ℕ → List Value → Type 0
IsEmptyText d text items = (next_record (table_config d) state.StartRecord [] [] (strip_bom text) ≡ None) × (items ≡ [])

abbrev pub IsAt : Delimiter → List ℕ → Rows (Bor (List ℕ)) → List Value → Type 0
IsAt d text s items = MatchBool (rows_ended s) (IsEmptyText d text items) (Progress d text (rows_names s) (rows_reader s) (rows_number s) items)

begins_at : (ended : Bool) (d : Delimiter) (text : List ℕ) (names : List (List ℕ)) (reader : Reader (Bor (List ℕ))) (number : ℕ)
    → ReadsNext (table_config d) state.StartRecord (Some (strip_bom text)) (source_of rest_of reader) (not ended) names (reader_state reader)
    → number ≡ (if ended then 0 else 1) → MatchBool ended (IsEmptyText d text []) (Progress d text names reader number [])
unfolding Reached
begins_at true d text names reader number reads is = (took_none _ _ _ _ _ names reads, refl)
begins_at false d text names reader number reads is =
    let t = took _ _ _ _ _ names reads in
    record {
      done = [];
      left = t.0;
      source = t.1;
      reached = ((names, reader_state reader, t.0), t.2, refl, (refl, refl));
      good = λ k d' below. absurd (omega arith);
      values = refl;
      rows = is;
    }

pub begins : (d : Delimiter) (text : List ℕ) (s : Rows (Bor (List ℕ))) → IsHeader rest_of d (Some text) s → rows_number s ≡ (if rows_ended s then 0 else 1) → IsAt d text s []
begins d text s header number = begins_at (rows_ended s) d text (rows_names s) (rows_reader s) (rows_number s) header.0.0 number

counted-next : (n : ℕ) → counted (counted n + 1) ≡ counted (n + 1)
counted-next n = omega arith

-- one more row
pub goes_on : (d : Delimiter) (text : List ℕ) (names fields : List (List ℕ)) (old new : Reader (Bor (List ℕ))) (number next : ℕ) (items after : List Value) (v : Value)
    → reader_config old ≡ table_config d → ReadRecord rest_of old new true fields → AllText fields → length fields ≡ length names → view v ≡ row_object names fields
    → after ≡ items ++ v ∷ [] → next ≡ counted (number + 1) → Progress d text names old number items → Progress d text names new next after
goes_on d text names fields old new number next items after v config reads is_text same is pushed counts p =
    let more = rows-more rest_of old new fields (table_config d) state.StartRecord (strip_bom text) p.left (names ∷ p.done) config p.source p.reached reads in
    record {
      done = p.done ++ fields ∷ [];
      left = more.0;
      source = more.1;
      reached = more.2;
      good = All-push (IsGoodRow names) p.done fields p.good (same, is_text);
      values = ap (map view) pushed ∙ map_push view items v ∙ rw (p.values, is) (sym (map_push (row_object names) p.done fields));
      rows = counts ∙ ap (λ n. counted (n + 1)) p.rows ∙ counted-next (length p.done + 1) ∙ ap (λ n. counted (n + 1)) (sym (length_push p.done fields));
    }

-- the rows are over
pub ends : (d : Delimiter) (text : List ℕ) (names fields : List (List ℕ)) (old new : Reader (Bor (List ℕ))) (number : ℕ) (items : List Value)
    → reader_config old ≡ table_config d → AllText names → ReadRecord rest_of old new false fields → Progress d text names old number items
    → IsTable d text (array (items_of (map view items)))
ends d text names fields old new number items config is_text reads p =
    let none = rows-end rest_of old new fields (table_config d) p.left config p.source reads in
    (names ∷ p.done, (reader_state old, p.left, p.reached, none), (is_text, p.good, ap (λ ds. array (items_of ds)) p.values))

pub no_rows : (d : Delimiter) (text : List ℕ) (items : List Value) → IsEmptyText d text items → IsTable d text (array (items_of (map view items)))
unfolding Reached
no_rows d text items none = ([], (state.StartRecord, strip_bom text, (refl, refl), none.0), ap (λ vs. array (items_of (map view vs))) none.1)

bad_row : (d : Delimiter) (text : List ℕ) (names fields : List (List ℕ)) (old new : Reader (Bor (List ℕ))) (number : ℕ) (items : List Value)
    → reader_config old ≡ table_config d → AllText names → TookRecord rest_of old new fields → (length fields ≢ length names) ⊎ ¬ AllText fields → Progress d text names old number items
    → HasBadRecord d text (counted (number + 1))
bad_row d text names fields old new number items config is_text reads bad p =
    let t = took (table_config d) _ _ p.left _ fields (rw (config, p.source) at reads) in
    let n : counted (number + 1) ≡ counted (length (names ∷ p.done) + 1) = ap (λ n. counted (n + 1)) p.rows ∙ counted-next (length p.done + 1) ∙ ap (λ n. counted (n + 1)) (omega arith) in
    (names ∷ p.done, fields, reader_state new, t.0, reached_one_more _ _ _ _ _ _ _ (names ∷ p.done) fields p.reached t.2, (is_text, p.good, bad), n)

-- a row that is refused
pub refused_row : (kind : DataErrorKind) (d : Delimiter) (text : List ℕ) (names : List (List ℕ)) (old new : Reader (Bor (List ℕ))) (number : ℕ) (items : List Value)
    → reader_config old ≡ table_config d → AllText names → stops_reading kind ≡ false → ExplainsRow rest_of old new names kind → Progress d text names old number items
    → HasBadRecord d text (counted (number + 1))
refused_row (RaggedRow row header found) d text names old new number items config is_text on why p =
    bad_row d text names why.2 old new number items config is_text why.3 (inl (λ same. why.1 (sym why.4 ∙ same ∙ sym why.0))) p
refused_row (FieldNotUtf8 row field) d text names old new number items config is_text on why p = bad_row d text names why.0 old new number items config is_text why.1 (inr why.2) p
refused_row (Expected x) d text names old new number items config is_text on why p = absurd (true≢false (sym why ∙ on))
refused_row TooDeep d text names old new number items config is_text on why p = absurd (true≢false (sym why ∙ on))
refused_row NumberTooLarge d text names old new number items config is_text on why p = absurd (true≢false (sym why ∙ on))
refused_row NumberNotInteger d text names old new number items config is_text on why p = absurd (true≢false (sym why ∙ on))
refused_row NotUtf8 d text names old new number items config is_text on why p = absurd (true≢false (sym why ∙ on))
refused_row (Toml x) d text names old new number items config is_text on why p = absurd (true≢false (sym why ∙ on))
refused_row (Io x) d text names old new number items config is_text on why p = absurd (true≢false (sym why ∙ on))
refused_row OutOfMemory d text names old new number items config is_text on why p = absurd (true≢false (sym why ∙ on))

-- what an error names is a record that can't be read
names_bad : (d : Delimiter) (text : List ℕ) (row : Option ℕ) (n : ℕ) → row ≡ Some n → HasBadRecord d text n → IsSomeAnd row (HasBadRecord d text)
names_bad d text row n is bad = rw is bad

-- a header that is refused
pub refused_header : (d : Delimiter) (text : List ℕ) (row : Option ℕ) → (row ≡ Some 1) × IsBadHeader d (Some text) → IsSomeAnd row (HasBadRecord d text)
unfolding Reached
refused_header d text row (one, (names, s, left, reads, bad)) =
    let t = took _ _ s _ left names reads in
    names_bad d text row 1 one ([], names, s, t.0, ((names, s, t.0), t.2, refl, (refl, refl)), bad, refl)

-- ---- what a call for the next row gives

view-Null : view Null ≡ null
view-Null = search (rules, the_lemmas)

-- a row that is read over null is an object of its own
pub over_null : (names fields : List (List ℕ)) (v : Value) → view v ≡ row_over names fields (view Null) → view v ≡ row_object names fields
over_null names fields v is = is ∙ ap (row_over names fields) view-Null

not_ended : (ended : Bool) (r : Result Bool DataError) → (ended ≡ true → r ≡ Ok false) → r ≡ Ok true → ended ≡ false
not_ended true r ends is = let none = ends refl in absurd (cc)
not_ended false r ends is = refl

-- it is a row
pub row_given : (d : Delimiter) (text : List ℕ) (old new : Rows (Bor (List ℕ))) (items after : List Value) (v : Value) (r : Result Bool DataError)
    → r ≡ Ok true → (rows_ended old ≡ true → r ≡ Ok false) → rows_ended new ≡ false → rows_names new ≡ rows_names old → reader_config (rows_reader old) ≡ table_config d
    → (rows_ended old ≡ false → IsNextRow rest_of (rows_reader old) (rows_reader new) (rows_names old) (rows_fields new) (Ok true))
    → view v ≡ row_object (rows_names old) (rows_fields new) → rows_number new ≡ counted (rows_number old + 1)
    → after ≡ items ++ v ∷ [] → IsAt d text old items → (reader_config (rows_reader new) ≡ table_config d) × IsAt d text new after
row_given d text old new items after v r is ended ends same config next made counts pushed at =
    let going : rows_ended old ≡ false = not_ended (rows_ended old) r ended is in
    let n = next going in
    let p : Progress d text (rows_names old) (rows_reader old) (rows_number old) items = rw going at at in
    let q = goes_on d text (rows_names old) (rows_fields new) (rows_reader old) (rows_reader new) (rows_number old) (rows_number new) items after v config n.0 n.1 n.2 made pushed counts p in
    (n.0.2 ∙ config, rw (ends, same) q)

over_at : (ended : Bool) (d : Delimiter) (text : List ℕ) (names fields : List (List ℕ)) (old new : Reader (Bor (List ℕ))) (number : ℕ) (items : List Value)
    → reader_config old ≡ table_config d → AllText names → (ended ≡ false → IsNextRow rest_of old new names fields (Ok false))
    → MatchBool ended (IsEmptyText d text items) (Progress d text names old number items) → IsTable d text (array (items_of (map view items)))
over_at true d text names fields old new number items config is_text next at = no_rows d text items at
over_at false d text names fields old new number items config is_text next at = ends d text names fields old new number items config is_text (next refl) at

-- there is none
pub none_given : (d : Delimiter) (text : List ℕ) (old new : Rows (Bor (List ℕ))) (items : List Value) → reader_config (rows_reader old) ≡ table_config d → AllText (rows_names old)
    → (rows_ended old ≡ false → IsNextRow rest_of (rows_reader old) (rows_reader new) (rows_names old) (rows_fields new) (Ok false)) → IsAt d text old items
    → IsTable d text (array (items_of (map view items)))
none_given d text old new items config is_text next at =
    over_at (rows_ended old) d text (rows_names old) (rows_fields new) (rows_reader old) (rows_reader new) (rows_number old) items config is_text next at

refusing : (ended : Bool) (r : Result Bool DataError) (e : DataError) → (ended ≡ true → r ≡ Ok false) → r ≡ Err e → ended ≡ false
refusing true r e ends is = let none = ends refl in absurd (cc)
refusing false r e ends is = refl

-- it is refused
pub row_refused : (d : Delimiter) (text : List ℕ) (old new : Rows (Bor (List ℕ))) (items : List Value) (r : Result Bool DataError) (e : DataError)
    → r ≡ Err e → (rows_ended old ≡ true → r ≡ Ok false) → reader_config (rows_reader old) ≡ table_config d
    → AllText (rows_names old) → (rows_ended old ≡ false → ExplainsRow rest_of (rows_reader old) (rows_reader new) (rows_names old) (kind_of e))
    → IsAt d text old items → (stops_reading (kind_of e) ≡ false → (rows_number new ≡ counted (rows_number old + 1)) × (row_of (kind_of e) ≡ Some (rows_number new)))
    → stops_reading (kind_of e) ≡ false → IsSomeAnd (row_of (kind_of e)) (HasBadRecord d text)
row_refused d text old new items r e is ended config is_text why at number on =
    let going : rows_ended old ≡ false = refusing (rows_ended old) r e ended is in
    let p : Progress d text (rows_names old) (rows_reader old) (rows_number old) items = rw going at at in
    let n = number on in
    names_bad d text _ (counted (rows_number old + 1)) (n.1 ∙ ap Some n.0) (refused_row (kind_of e) d text (rows_names old) (rows_reader old) (rows_reader new) (rows_number old) items config is_text on (why going) p)

there : (d : Delimiter) (text : List ℕ) (row : Option ℕ) → IsSomeAnd row (HasBadRecord d text) → (n : ℕ) × HasBadRecord d text n
there d text None bad = absurd bad
there d text (Some n) bad = (n, bad)

-- a text that is refused has a record that can't be read
pub has_bad : (d : Delimiter) (text : List ℕ) (r : Result Value DataError) → IfErr r (λ e. ¬ IsMemory e → IsSomeAnd (row_of (kind_of e)) (HasBadRecord d text))
    → IfErr r (λ e. ¬ IsMemory e → (n : ℕ) × HasBadRecord d text n)
has_bad d text (Ok v) refused = tt
has_bad d text (Err e) refused = λ other. there d text _ (refused other)

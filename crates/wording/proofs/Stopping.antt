-- Where a text stops saying something: at the first line that no solution text of the table has there.
use Prim.Native.Nat.{ℕ, zero, suc, ◌+◌, ◌<◌, ◌≤◌}
use mathlib.Core.Path.{◌≡◌, refl, sym, ap, subst, ◌∙◌}
use mathlib.Core.Bool.{Bool, true, false, cond}
use mathlib.Core.List.{List, [], ◌∷◌, ◌++◌}
use native.Mathlib.Omega.{arith}
use lib.Dec.{ltb}
use lib.ListN.{length, replicate, length-replicate, get_or-replicate}
use borrow.Author.Tests.{ltb-true, ltb-false}
use Rattle.std.specs.Prelude.{Option, Some, None}
use Rattle.rows.proofs.Sums.{by_test}
use Rattle.table.specs.Table.{Table, arcs}
use Rattle.table.specs.Accepted.{Accepted}
use Rattle.scan.specs.Parts.{LF, run, up_to}
use Rattle.wording.specs.Text.{line_of, value_front, flow_front, flow_lines, solution_text, most_value, Within}
use Rattle.wording.specs.Lines.{first_line, behind_line, is_ended, number_behind, first_number}
use Rattle.wording.specs.Lines.{Said, flows, nothing, say_first, say_next, flows_said, stop, words_of, words_from, text_words, Shares, FirstWrong}
use Rattle.wording.proofs.Bytes.{Without}
use Rattle.wording.proofs.Speaking.{line_behind, line_first, line_ended, line_says, says_line, front_one_line, Fitting, ends_fit, first_within}

-- ---- one line

-- Lines that are equal say the same number.
same_number : (front : List ℕ) (most : ℕ) (text other : List ℕ) → is_ended text ≡ true → is_ended other ≡ true → first_line text ≡ first_line other
    → first_number front most text ≡ first_number front most other
unfolding first_number
same_number front most text other e f g = rw (e, f) (ap (number_behind front most) g)

module _ (front : List ℕ) (one_line : Without LF front) (number : ℕ) (fits : number ≤ 4294967295) (rest : List ℕ) where
  -- What has its first line in common with a line that says a number says it.
  shared_says : (most count : ℕ) (text : List ℕ) → number ≤ most → Shares (suc count) text (line_of front number ++ rest)
      → first_number front most text ≡ Some number
  unfolding Shares
  shared_says most count text h (e, f, g, more) =
      same_number front most text (line_of front number ++ rest) e f g ∙ line_says front one_line number fits rest most h

  -- The further lines are shared with what stands behind it.
  shares_behind : (count : ℕ) (text : List ℕ) → Shares (suc count) text (line_of front number ++ rest) → Shares count (behind_line text) rest
  unfolding Shares
  shares_behind count text (e, f, g, more) = subst (Shares count (behind_line text)) (line_behind front one_line number fits rest) more

  -- The same line in front of shared lines is shared.
  shares_line : (count : ℕ) (other : List ℕ) → Shares count other rest → Shares (suc count) (line_of front number ++ other) (line_of front number ++ rest)
  unfolding Shares
  shares_line count other more = (
    line_ended front one_line number fits other,
    line_ended front one_line number fits rest,
    line_first front one_line number fits other ∙ sym (line_first front one_line number fits rest),
    rw (line_behind front one_line number fits other, line_behind front one_line number fits rest) more,
  )

-- No line is shared with nothing.
shares_none : (count : ℕ) (text : List ℕ) → Shares (suc count) text [] → ⊥
unfolding Shares
shares_none count text (e, f, g, more) = let below : up_to LF [] < 0 = ltb-true (up_to LF []) 0 f in omega arith

-- Nothing is asked of no lines.
shares_nothing : (text other : List ℕ) → Shares 0 text other
unfolding Shares
shares_nothing text other = tt

-- ---- the lines of arcs

-- Flows of 0 are within any capacities.
zeros_within : (capacities : List ℕ) → Within capacities (replicate (length capacities) 0)
zeros_within capacities k l = omega (arith, get_or-replicate {A = ℕ} (length capacities) k 0 0 l)

-- The lines of arcs, the first of which is line `line`, stop at line k: some lines of flows within the capacities have those before, and none has one more.
record Stopped (tails heads capacities rest : List ℕ) (line k : ℕ) : Type 0 where
  pub before : ℕ
  pub place : k ≡ line + before
  pub row : List ℕ
  pub long : length row ≡ length tails
  pub within : Within capacities row
  pub so_far : Shares before rest (flow_lines tails heads row)
  pub no_further : (row : List ℕ) → length row ≡ length tails → Within capacities row → Shares (suc before) rest (flow_lines tails heads row) → ⊥

-- Bytes behind the last line stop there.
more_bytes : (heads capacities rest : List ℕ) (line k : ℕ) → cond (ltb 0 (length rest)) (nothing line) (flows []) ≡ nothing k
    → Stopped [] heads capacities rest line k
unfolding flow_lines
more_bytes heads capacities rest line k e = go (ltb 0 (length rest)) e
  where
    go : (some : Bool) → cond some (nothing line) (flows []) ≡ nothing k → Stopped [] heads capacities rest line k
    go false f = absurd (let z : ◌≡◌ {A = ℕ} 0 1 = cc in omega arith)
    go true f =
        let same : line ≡ k = cc in
        record {
          before = 0;
          place = omega arith;
          row = [];
          long = refl;
          within = λ j l. omega arith;
          so_far = shares_nothing rest [];
          no_further = λ row long within shared. shares_none 0 rest shared;
        }

-- Where the next line says a flow, the further ones stop.
further : (flow line k : ℕ) (said : Said) → say_next (Some flow) line said ≡ nothing k → said ≡ nothing k
unfolding say_next say_first
further flow line k (flows row) e = absurd (let z : ◌≡◌ {A = ℕ} 0 1 = cc in omega arith)
further flow line k (nothing other) e = e

-- Where it says none, they stop at it.
stops_here : (line k : ℕ) (said : Said) → say_next None line said ≡ nothing k → line ≡ k
unfolding say_next
stops_here line k said e = cc

module _ (t h c : ℕ) (ts hs cs rest : List ℕ) (line k : ℕ) (one_line : Without LF (flow_front t h)) (fits : c ≤ 4294967295)
    (heads_long : length hs ≡ length ts) (capacities_long : length cs ≡ length ts) where
  -- The first line says no flow.
  stopped_here : first_number (flow_front t h) c rest ≡ None → line ≡ k → Stopped (t ∷ ts) (h ∷ hs) (c ∷ cs) rest line k
  unfolding flow_lines
  stopped_here none same =
      record {
        before = 0;
        place = omega arith;
        row = replicate (length (c ∷ cs)) 0;
        long = length-replicate {A = ℕ} (length (c ∷ cs)) 0 ∙ ap suc capacities_long;
        within = zeros_within (c ∷ cs);
        so_far = shares_nothing rest _;
        no_further = no_further;
      }
    where
      no_further : (row : List ℕ) → length row ≡ length (t ∷ ts) → Within (c ∷ cs) row → Shares 1 rest (flow_lines (t ∷ ts) (h ∷ hs) row) → ⊥
      no_further [] long within shared = omega arith
      no_further (f ∷ fs) long within shared =
          let below : f ≤ c = within 0 (omega arith) in
          let says = shared_says (flow_front t h) one_line f (omega arith) (flow_lines ts hs fs) c 0 rest below shared in
          let z : ◌≡◌ {A = ℕ} 0 1 = cc in
          omega arith

  -- It says one, and the further lines stop.
  stopped_further : (f : ℕ) → first_number (flow_front t h) c rest ≡ Some f → Stopped ts hs cs (behind_line rest) (suc line) k
      → Stopped (t ∷ ts) (h ∷ hs) (c ∷ cs) rest line k
  unfolding flow_lines
  stopped_further f found s =
      let (is, below) = says_line (flow_front t h) c rest f found in
      record {
        before = suc s.before;
        place = omega (arith, s.place);
        row = f ∷ s.row;
        long = ap suc s.long;
        within = first_within f c s.row cs below s.within;
        so_far =
            subst (λ x. Shares (suc s.before) x (line_of (flow_front t h) f ++ flow_lines ts hs s.row)) (sym is)
            (shares_line (flow_front t h) one_line f (omega arith) (flow_lines ts hs s.row) s.before (behind_line rest) s.so_far);
        no_further = no_further;
      }
    where
      no_further : (row : List ℕ) → length row ≡ length (t ∷ ts) → Within (c ∷ cs) row
          → Shares (suc (suc s.before)) rest (flow_lines (t ∷ ts) (h ∷ hs) row) → ⊥
      no_further [] long within shared = omega arith
      no_further (g ∷ gs) long within shared =
          let below : g ≤ c = within 0 (omega arith) in
          s.no_further gs (omega arith) (λ j l. within (suc j) (omega arith))
          (shares_behind (flow_front t h) one_line g (omega arith) (flow_lines ts hs gs) (suc s.before) rest shared)

-- Lines that say nothing stop where they say.
stopped_lines : (tails heads capacities rest : List ℕ) (line k : ℕ) → length heads ≡ length tails → length capacities ≡ length tails
    → Fitting tails → Fitting heads → Fitting capacities → flows_said tails heads capacities line rest ≡ nothing k → Stopped tails heads capacities rest line k
unfolding flows_said
stopped_lines [] heads capacities rest line k a b ft fh fc e = more_bytes heads capacities rest line k e
stopped_lines (t ∷ ts) [] capacities rest line k a b ft fh fc e = absurd (omega arith)
stopped_lines (t ∷ ts) (h ∷ hs) [] rest line k a b ft fh fc e = absurd (omega arith)
stopped_lines (t ∷ ts) (h ∷ hs) (c ∷ cs) rest line k a b ft fh fc e =
    let one_line = front_one_line t h (ft 0 (omega arith)) (fh 0 (omega arith)) in
    let fits : c ≤ 4294967295 = fc 0 (omega arith) in
    let on = stopped_lines ts hs cs (behind_line rest) (suc line) k (omega arith) (omega arith)
    (λ j l. ft (suc j) (omega arith)) (λ j l. fh (suc j) (omega arith)) (λ j l. fc (suc j) (omega arith)) in
    go one_line fits on (first_number (flow_front t h) c rest) refl e
  where
    go : Without LF (flow_front t h) → c ≤ 4294967295
        → (flows_said ts hs cs (suc line) (behind_line rest) ≡ nothing k → Stopped ts hs cs (behind_line rest) (suc line) k)
        → (found : Option ℕ) → first_number (flow_front t h) c rest ≡ found → say_next found line (flows_said ts hs cs (suc line) (behind_line rest)) ≡ nothing k
        → Stopped (t ∷ ts) (h ∷ hs) (c ∷ cs) rest line k
    go one_line fits on None found e =
        stopped_here t h c ts hs cs rest line k one_line fits (omega arith) (omega arith) found
        (stops_here line k (flows_said ts hs cs (suc line) (behind_line rest)) e)
    go one_line fits on (Some f) found e =
        stopped_further t h c ts hs cs rest line k one_line fits (omega arith) (omega arith) f found
        (on (further f line k (flows_said ts hs cs (suc line) (behind_line rest)) e))

-- ---- the whole text

module _ (t : Table) (ok : Accepted t) (text : List ℕ) where
  -- The first line says no value.
  wrong_first : first_number value_front most_value text ≡ None → FirstWrong t text 1
  unfolding solution_text run
  wrong_first none =
      record {
        before = 0;
        next = refl;
        other = solution_text t 0 (replicate (arcs t) 0);
        value = 0;
        row = replicate (arcs t) 0;
        solution =
            record { value_fits = omega arith; long = length-replicate {A = ℕ} (arcs t) 0; within = zeros_within t.capacities; is = refl };
        so_far = shares_nothing text _;
        no_further =
            λ other value row s shared.
            let small = s.value_fits in
            let says = shared_says value_front refl value (omega arith) (flow_lines t.tails t.heads row) most_value 0 text small
            (subst (Shares 1 text) s.is shared) in
            let z : ◌≡◌ {A = ℕ} 0 1 = cc in
            omega arith;
      }

  -- It says one, and the lines of arcs stop.
  wrong_later : (value k : ℕ) → first_number value_front most_value text ≡ Some value
      → Stopped t.tails t.heads t.capacities (behind_line text) 2 k → FirstWrong t text k
  unfolding solution_text run
  wrong_later value k found s =
      let (is, below) = says_line value_front most_value text value found in
      record {
        before = suc s.before;
        next = omega (arith, s.place);
        other = solution_text t value s.row;
        value = value;
        row = s.row;
        solution = record { value_fits = below; long = s.long ∙ sym ok.rows.capacities_long; within = s.within; is = refl };
        so_far =
            subst (λ x. Shares (suc s.before) x (line_of value_front value ++ flow_lines t.tails t.heads s.row)) (sym is)
            (shares_line value_front refl value (omega arith) (flow_lines t.tails t.heads s.row) s.before (behind_line text) s.so_far);
        no_further =
            λ other v row solved shared.
            let small = solved.value_fits in
            s.no_further row (solved.long ∙ ok.rows.capacities_long) solved.within
            (shares_behind value_front refl v (omega arith) (flow_lines t.tails t.heads row) (suc s.before) text
            (subst (Shares (suc (suc s.before)) text) solved.is shared));
      }

  -- A text that stops does so at the first line that no solution text of the table has there.
  pub stops_first : (k : ℕ) → text_words t.tails t.heads t.capacities text ≡ stop k → FirstWrong t text k
  unfolding text_words words_from words_of
  stops_first k e = go (first_number value_front most_value text) (flows_said t.tails t.heads t.capacities 2 (behind_line text)) refl refl e
    where
      go : (found : Option ℕ) (said : Said) → first_number value_front most_value text ≡ found
          → flows_said t.tails t.heads t.capacities 2 (behind_line text) ≡ said
          → words_from found said ≡ stop k → FirstWrong t text k
      go None said found lines e = let same : 1 ≡ k = cc in subst (FirstWrong t text) same (wrong_first found)
      go (Some value) (flows row) found lines e = absurd (let z : ◌≡◌ {A = ℕ} 0 1 = cc in omega arith)
      go (Some value) (nothing line) found lines e =
          let (ft, fh, fc) = ends_fit t ok in
          let same : line ≡ k = cc in
          wrong_later value k found
          (stopped_lines t.tails t.heads t.capacities (behind_line text) 2 k ok.rows.ends.heads_long
          ok.rows.capacities_long ft fh fc (lines ∙ ap nothing same))

-- ---- one line only

-- Who shares some lines shares fewer.
fewer : (count more : ℕ) (text other : List ℕ) → count ≤ more → Shares more text other → Shares count text other
unfolding Shares
fewer zero more text other l shared = tt
fewer (suc count) zero text other l shared = absurd (omega arith)
fewer (suc count) (suc more) text other l (e, f, g, rest) = (e, f, g, fewer count more (behind_line text) (behind_line other) (omega arith) rest)

-- No line before the first wrong one is so,
not_before : (t : Table) (text : List ℕ) (k l : ℕ) (a : FirstWrong t text k) (b : FirstWrong t text l) → a.before < b.before → ⊥
not_before t text k l a b h = a.no_further b.other b.value b.row b.solution (fewer (suc a.before) b.before text b.other h b.so_far)

-- and so there is one alone: whoever names the first wrong line names the same.
pub first_wrong_unique : (t : Table) (text : List ℕ) (k l : ℕ) → FirstWrong t text k → FirstWrong t text l → k ≡ l
first_wrong_unique t text k l a b =
    by_test (ltb a.before b.before)
    (λ e. absurd (not_before t text k l a b (ltb-true _ _ e)))
    (λ e.
    by_test (ltb b.before a.before)
    (λ f. absurd (not_before t text l k b a (ltb-true _ _ f)))
    (λ f. omega (arith, a.next, b.next, ltb-false a.before b.before e, ltb-false b.before a.before f)))

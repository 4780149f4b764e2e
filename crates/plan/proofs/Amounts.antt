-- The amounts of the lines from a place of the text on, and what is in the rows once those before it were taken.
use Prim.Native.Nat.{ℕ, ◌+◌, ◌*◌, ◌-◌, ◌<◌, ◌≤◌}
use mathlib.Core.Path.{◌≡◌, refl, sym, ap, subst}
use mathlib.Core.Bool.{Bool, true, false, true≢false}
use mathlib.Core.List.{List, [], ◌∷◌, ◌++◌}
use native.Mathlib.Omega.{arith}
use lib.ListN.{length, get_or, take, drop}
use Rattle.rows.specs.Row.{Node}
use Rattle.rows.specs.Sum.{only}
use Rattle.scan.specs.Parts.{LF, lines, up_to}
use Rattle.scan.proofs.Parting.{line_here, lines_end}
use Rattle.amounts.specs.declared.Amount.{Amount}
use Rattle.amounts.specs.declared.Kind.{Kind}
use Rattle.amounts.specs.declared.Kind.TheVariants.{Comment, ValueLine, FlowLine, Other}
use Rattle.amounts.specs.Lines.{kind_of, amount_in, amounts_of}
use Rattle.sharing.specs.Full.{is_pair, sum_where, pair_sum}
use Rattle.pairs.specs.Places.{room_at, pair_capacity, Takes}
use Rattle.plan.specs.Rows.{Adds, TookAll, IsBelow, AtMost}
use Rattle.pairs.proofs.Room.{sum_one}

-- The amounts of the lines from a place on.
abbrev pub amounts_from : (text : List ℕ) (at : ℕ) → List Amount
amounts_from text at = amounts_of (lines (drop at text))

-- That of a line stands before those of the lines behind it.
pub amounts_here : (text : List ℕ) (at stop : ℕ) → at < length text → stop ≡ at + up_to LF (drop at text)
    → {kind : Kind} → kind ≡ kind_of (take (stop - at) (drop at text)) → amounts_from text at ≡ amount_in kind ++ amounts_from text (stop + 1)
unfolding amounts_of
amounts_here text at stop h e is = rw (line_here text at stop h e, is) refl

-- At the end of the text there are no more.
pub amounts_end : (text : List ℕ) (at : ℕ) → length text ≤ at → amounts_from text at ≡ []
unfolding amounts_of
amounts_end text at h = rw (lines_end text at h) refl

-- Sums of amounts one behind the other.
sum_append : (test : Amount → Bool) (xs ys : List Amount) → sum_where test (xs ++ ys) ≡ sum_where test xs + sum_where test ys
unfolding sum_where
sum_append test [] ys = omega arith
sum_append test (x ∷ xs) ys = omega (arith, sum_append test xs ys)

-- What a row by node holds with the amounts that are left is what all amounts give.
abbrev pub Balance : (n : ℕ) (test : ℕ → Amount → Bool) (row : List ℕ) (all rest : List Amount) → Type 0
Balance n test row all rest = (i : ℕ) → Node n i → get_or row (i - 1) 0 + sum_where (test i) rest ≡ sum_where (test i) all

-- More amounts are added.
pub balance_on : (n : ℕ) (test : ℕ → Amount → Bool) (row row' : List ℕ) (all rest more further : List Amount)
    → Balance n test row all rest → rest ≡ more ++ further → Adds n row row' (λ i. sum_where (test i) more) → Balance n test row' all further
balance_on n test row row' all rest more further b e adds i v =
    omega (arith, b i v, ap (sum_where (test i)) e, sum_append (test i) more further, adds.0 i v)

-- None are left.
pub balance_end : (n : ℕ) (test : ℕ → Amount → Bool) (row : List ℕ) (all rest : List Amount) → Balance n test row all rest → rest ≡ []
    → (i : ℕ) → Node n i → get_or row (i - 1) 0 ≡ sum_where (test i) all
unfolding sum_where
balance_end n test row all rest b e i v = omega (arith, b i v, ap (sum_where (test i)) e)

-- What is left of each pair with all amounts is what there was with the amounts that are left; or of some pair more was taken than there was.
abbrev pub Pairs : (place : ℕ → ℕ → ℕ) (old row : List ℕ) (all rest : List Amount) (fits : Bool) → Type 0
Pairs place old row all rest true = (a b : ℕ) → room_at place row a b + pair_sum all a b ≡ room_at place old a b + pair_sum rest a b
Pairs place old row all rest false = (a : ℕ) × (b : ℕ) × (room_at place old a b + pair_sum rest a b < pair_sum all a b)

-- More amounts are taken.
pub pairs_on : (place : ℕ → ℕ → ℕ) (old row row' : List ℕ) (all rest more further : List Amount) (fits fits' : Bool)
    → Pairs place old row all rest fits → rest ≡ more ++ further → (fits ≡ true → Takes place row more fits' row') × (fits ≡ false → fits' ≡ false)
    → Pairs place old row' all further fits'
pairs_on place old row row' all rest more further true true p e t = λ a b.
    omega (arith, p a b, ap (λ (l : List Amount). pair_sum l a b) e, sum_append (λ x. is_pair a b x.tail x.head) more further, t.0 refl a b)
pairs_on place old row row' all rest more further true false p e t =
    let (a, b, less) = t.0 refl in
    (a, b, omega (arith, p a b, ap (λ (l : List Amount). pair_sum l a b) e, sum_append (λ x. is_pair a b x.tail x.head) more further))
pairs_on place old row row' all rest more further false true p e t = absurd (true≢false (t.1 refl))
pairs_on place old row row' all rest more further false false p e t =
    let (a, b, less) = p in
    (a, b, omega (arith, ap (λ (l : List Amount). pair_sum l a b) e, sum_append (λ x. is_pair a b x.tail x.head) more further))

-- None are left.
pub pairs_end : (place : ℕ → ℕ → ℕ) (old row : List ℕ) (all rest : List Amount) (fits : Bool) → Pairs place old row all rest fits → rest ≡ [] → TookAll place old all fits
unfolding sum_where
pairs_end place old row all rest true p e = λ a b. omega (arith, p a b, ap (λ (l : List Amount). pair_sum l a b) e)
pairs_end place old row all rest false p e = let (a, b, less) = p in (a, b, omega arith)

-- No number of a row is above so many for each byte passed.
pub most_on : (n : ℕ) (row row' : List ℕ) (f : ℕ → ℕ) (at next : ℕ) → AtMost (at * 4294967296) row → Adds n row row' f → at < next → AtMost (next * 4294967296) row'
most_on n row row' f at next m adds h k = omega (arith, m k, adds.1 k)

-- A line that is no `f` line has no amount.
pub no_amount : (kind : Kind) → ((x : Amount) → kind ≡ FlowLine x → ⊥) → amount_in kind ≡ []
unfolding amount_in
no_amount Comment h = refl
no_amount (ValueLine value) h = refl
no_amount (FlowLine x) h = absurd (h x refl)
no_amount Other h = refl

-- An `f` line has one.
pub one_amount : (kind : Kind) (x : Amount) → kind ≡ FlowLine x → amount_in kind ≡ x ∷ []
unfolding amount_in
one_amount kind x e = rw e refl

-- Without an amount nothing is added,
pub adds_nothing : (n : ℕ) (row : List ℕ) (test : ℕ → Amount → Bool) (amounts : List Amount) → amounts ≡ [] → Adds n row row (λ i. sum_where (test i) amounts)
unfolding sum_where
adds_nothing n row test amounts e = (λ i v. omega (arith, ap (sum_where (test i)) e), λ k. omega arith)

-- and nothing taken.
pub takes_nothing : (place : ℕ → ℕ → ℕ) (row : List ℕ) (amounts : List Amount) (fits : Bool) → amounts ≡ [] → fits ≡ true → Takes place row amounts fits row
unfolding sum_where
takes_nothing place row amounts true e f = λ a b. omega (arith, ap (λ (l : List Amount). pair_sum l a b) e)
takes_nothing place row amounts false e f = absurd (true≢false (sym f))

-- One amount is added,
pub adds_amount : (n : ℕ) (row row' : List ℕ) (test : ℕ → Amount → Bool) (amounts : List Amount) (x : Amount) → amounts ≡ x ∷ []
    → Adds n row row' (λ i. only (test i x) x.flow) → Adds n row row' (λ i. sum_where (test i) amounts)
adds_amount n row row' test amounts x e adds = (λ i v. omega (arith, adds.0 i v, ap (sum_where (test i)) e, sum_one (test i) x), adds.1)

-- and taken.
pub takes_amount : (place : ℕ → ℕ → ℕ) (row row' : List ℕ) (amounts : List Amount) (x : Amount) (fits : Bool) → amounts ≡ x ∷ [] → Takes place row (x ∷ []) fits row' → Takes place row amounts fits row'
takes_amount place row row' amounts x fits e t = subst (λ (l : List Amount). Takes place row l fits row') (sym e) t

-- Where the row keeps the capacities of each pair, no sum is above them, or some is.
pub took_below : (place : ℕ → ℕ → ℕ) (tails heads capacities room : List ℕ) → ((a b : ℕ) → room_at place room a b ≡ pair_capacity tails heads capacities a b)
    → (amounts : List Amount) (fits : Bool) → TookAll place room amounts fits → IsBelow tails heads capacities amounts fits
took_below place tails heads capacities room filled amounts true all = λ a b. omega (arith, filled a b, all a b)
took_below place tails heads capacities room filled amounts false all = let (a, b, less) = all in (a, b, omega (arith, filled a b))

-- A state of rows as a state of functions, and the network of a table that document 01 accepts.
use Prim.Native.Nat.{ℕ}
use mathlib.Core.Path.{◌≡◌, refl}
use mathlib.Core.Bool.{Bool, true, false, cond}
use native.Mathlib.Omega.{arith}
use borrow.Author.Tests.{ne_eqb}
use Rattle.rows.specs.Row.{at_place, at_node}
use Rattle.network.specs.Network.{is_inner, Sound, NoMinimums}
use Rattle.network.proofs.Steps.{State as Functions}
use Rattle.network.proofs.Facts.{Facts}
use Rattle.table.specs.Table.{Table, network_of}
use Rattle.table.specs.Accepted.{Accepted}
use Rattle.run.specs.Start.{State}

-- The rows of a state as functions of the place and of the node.
abbrev pub functions_of : State → Functions
functions_of st = record { flow = at_place st.flow; excess = at_node st.excess; label = at_node st.label }

-- The theory's facts of a state of rows.
abbrev pub FactsOf : Table → ℕ → State → Type 0
FactsOf t delta st = Facts (network_of t) delta (functions_of st)

-- The network of an accepted table is sound,
pub accepted_sound : (t : Table) → Accepted t → Sound (network_of t)
accepted_sound t ok =
    record {
      source = ok.source;
      sink = ok.sink;
      apart = ok.apart;
      tails = λ k l. ok.rows.ends.tail_node k (omega (arith, ok.rows.capacities_long));
      heads = λ k l. ok.rows.ends.head_node k (omega (arith, ok.rows.capacities_long));
      loopless = λ k l. ok.rows.ends.no_loop k (omega (arith, ok.rows.capacities_long));
    }

-- and has no minimums.
pub no_minimums : (t : Table) → NoMinimums (network_of t)
no_minimums t k l = refl

-- What holds of each of two where the test takes it holds of the one that is taken.
pub by_cond : {A : Type 0} (P : A → Type 0) (b : Bool) (x y : A) → (b ≡ true → P x) → (b ≡ false → P y) → P (cond b x y)
by_cond P true x y p q = p refl
by_cond P false x y p q = q refl

-- A node other than source and sink is inner.
pub inner_other : (t : Table) (i : ℕ) → (i ≡ t.source → ⊥) → (i ≡ t.sink → ⊥) → is_inner (network_of t) i ≡ true
inner_other t i not_source not_sink = rw (ne_eqb i t.source not_source, ne_eqb i t.sink not_sink)

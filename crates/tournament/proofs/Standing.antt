-- Laws of a tournament that has the keys of all nodes but one.
use Rattle.std.specs.Prelude.{Some}
use Prim.Native.Nat.{ℕ, ◌≤◌, ◌<◌}
use native.Mathlib.Omega.{arith}
use mathlib.Core.Path.{◌≡◌, ap, sym, subst, subst⁻¹, ◌∙◌}
use mathlib.Core.List.{List}
use borrow.Author.Tests.{lt-ltb, eq-eqb, ne_eqb}
use Rattle.rows.specs.Row.{Node, at_place, at_node}
use Rattle.rows.proofs.Sums.{by_equal}
use Rattle.tournament.specs.Tournament.{none, key, node_of, KeyOf, OwnKeys, rekeyed, without, Tournament, AllBut, Least, named}
use Rattle.tournament.proofs.Mending.{tournament_same}
use Rattle.tournament.proofs.Roots.{root_least}

module _ (n : ℕ) (keys : ℕ → ℕ) (tree : List ℕ) where
  -- Node i's key stands in the tournament where it was put there.
  pub stand_put : (i x z : ℕ) → keys i ≡ x → Tournament n (rekeyed (rekeyed keys i z) i x) tree → Tournament n keys tree
  stand_put i x z is t =
      tournament_same n _ keys tree (λ v node. by_equal v i (λ e. rw (eq-eqb v i e) (sym is ∙ ap keys (sym e))) (λ ne. rw (ne_eqb v i ne))) t

-- A key stays where only another node's changes.
pub rekeyed_other : (keys : ℕ → ℕ) (i j x y : ℕ) → (i ≡ j → ⊥) → keys i ≡ x → rekeyed keys j y i ≡ x
rekeyed_other keys i j x y ne is = rw (ne_eqb i j ne) is

-- Nodes of different keys are two.
pub apart : (keys : ℕ → ℕ) (i j x y : ℕ) → keys i ≡ x → keys j ≡ y → y < x → i ≡ j → ⊥
apart keys i j x y is js less e = omega (arith, ap keys e)

-- Node j's key, where none stood, is put there.
pub but_put : (n : ℕ) (keys : ℕ → ℕ) (tree : List ℕ) (i j y z : ℕ) → (i ≡ j → ⊥) → keys j ≡ y → Tournament n (rekeyed (rekeyed (without keys j) i z) j y) tree
    → AllBut n keys tree i
but_put n keys tree i j y z two js t = (
  z,
  tournament_same n _ (rekeyed keys i z) tree
      (λ v node.
      by_equal v j
      (λ f. rw (eq-eqb v j f, ne_eqb v i (λ e. two (sym e ∙ f))) (sym js ∙ ap keys (sym f)))
      (λ nf. rw (ne_eqb v j nf)))
      t,
)

module _ (n : ℕ) (keys : ℕ → ℕ) (tree : List ℕ) (own : OwnKeys n keys) where
  -- A key that is at most the root is the least, if the tournament has all others.
  pub least_but : n ≤ 512 → (i x : ℕ) → Node n i → keys i ≡ x → x ≤ at_place tree 1 → AllBut n keys tree i → Least n keys tree x
  least_but few i x node is low (z, t) =
      record {
        low = omega (arith, may.0);
        each = λ v at_v. by_equal v i (λ e. omega (arith, ap keys e)) (λ ne. omega (arith, above v at_v ne));
        node = λ h. subst⁻¹ (Node n) (may.1 h) node;
        key_is = λ h. ap keys (may.1 h) ∙ is;
        others = λ h. subst⁻¹ (AllBut n keys tree) (may.1 h) (z, t);
      }
    where
      may : KeyOf i x
      may = subst (KeyOf i) is (own i node)

      above : (v : ℕ) → Node n v → (v ≡ i → ⊥) → at_place tree 1 ≤ keys v
      above v at_v ne = rw (ne_eqb v i ne) at (root_least n (rekeyed keys i z) tree few t v at_v)

-- Where no other key changes but node i's and node j's, which was none.
pub but_two : (n : ℕ) (keys other : ℕ → ℕ) (tree : List ℕ) (i j : ℕ) → ((v : ℕ) → (v ≡ i → ⊥) → (v ≡ j → ⊥) → other v ≡ keys v)
    → ((j ≡ i → ⊥) → keys j ≡ none) → AllBut n keys tree i → AllBut n (without other j) tree i
but_two n keys other tree i j same free (z, t) = (
  z,
  tournament_same n _ (rekeyed (without other j) i z) tree
      (λ v node.
      by_equal v i
      (λ e. rw (eq-eqb v i e))
      (λ ne.
      rw (ne_eqb v i ne)
      (by_equal v j (λ f. rw (eq-eqb v j f) (ap keys f ∙ free (λ e. ne (f ∙ e)))) (λ nf. rw (ne_eqb v j nf) (sym (same v ne nf))))))
      t,
)

-- A node's key is as it was where its excess and label are.
pub key_same : (delta : ℕ) (excess label excess' label' : List ℕ) (v : ℕ) → at_node excess' v ≡ at_node excess v → at_node label' v ≡ at_node label v
    → key delta excess' label' v ≡ key delta excess label v
key_same delta excess label excess' label' v e f = rw (e, f)

-- A node's key gives the choice of that node.
pub names : (n : ℕ) (keys : ℕ → ℕ) → OwnKeys n keys → (i x : ℕ) → Node n i → keys i ≡ x → x < none → Some i ≡ named x
names n keys own i x node is less =
    let own_x : node_of x ≡ i = subst (λ (y : ℕ). y < none → node_of y ≡ i) is (own i node).1 less in
    rw (lt-ltb x none less, own_x)

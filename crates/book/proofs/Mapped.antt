-- What was so of a result before `map_err` gave its fault a layer and an offset.
use Rattle.std.proofs.Common.{◌≡◌, ℕ, Ok, Err, Result, subst}
use Rattle.std.specs.Result.{MatchResult, IsErrAnd}
use Rattle.book.specs.declared.refusals.Fault.{Fault}
use Rattle.book.specs.declared.refusals.Layer.{Layer}
use Rattle.book.specs.declared.refusals.Refusal.{Refusal}
use Rattle.book.specs.Lines.{refused}

abbrev pub Located : Layer → ℕ → Fault → Refusal → Type 0
Located y at f r = r ≡ refused f y at

module _ {A : Type 0} (P : Result A Fault → Type 0) (y : Layer) (at : ℕ) where
  pub mapped_ok : (r : Result A Fault) (a : A) → P r → MatchResult r (λ x. ◌≡◌ {A = Result A Refusal} (Ok a) (Ok x)) (λ f. IsErrAnd {T = A} (Ok a) (Located y at f)) → P (Ok a)
  mapped_ok (Ok x) a p h = let e : x ≡ a = cc in subst (λ (v : A). P (Ok v)) e p
  mapped_ok (Err f) a p h = absurd h

  pub mapped_err : (r : Result A Fault) (q : Refusal) → P r → MatchResult r (λ x. ◌≡◌ {A = Result A Refusal} (Err q) (Ok x)) (λ f. IsErrAnd {T = A} (Err q) (Located y at f)) → (f : Fault) × P (Err f) × Located y at f q
  mapped_err (Ok x) q p h = absurd cc
  mapped_err (Err f) q p h = (f, p, h)

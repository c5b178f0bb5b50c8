-- A line that was read inside a curve.
use Rattle.std.proofs.Common.{◌≡◌, ℕ, ◌<◌, Bool, true, false, cond, ltb, List, length, get_or, Some, None, Ok, Option, sym, refl, ap, ◌∙◌, subst, arith, ltb-true}
use Rattle.book.specs.declared.ops.Op.{Op}
use Rattle.book.specs.declared.ops.Command.{Command}
use Rattle.book.specs.declared.ops.Command.TheVariants.{Line}
use Rattle.codelist.specs.declared.lines.Line.{Line as CodeLine}
use Rattle.codelist.specs.Lines.{fault}
use Rattle.book.specs.Ops.{op_of, operand_bytes, command_of, command_at}
use Rattle.book.specs.Lines.{line_by, inside_if, inside_of, inside, command_read_if, command_read_of, command_read}

-- a command whose operands are there
pub record Whole (bs : List ℕ) (m : Command) (w : ℕ) : Type 0 where
  pub op : Op
  pub first : op_of (get_or bs 0 0) ≡ Some op
  pub at : command_at op bs ≡ Some m
  pub width : operand_bytes op bs ≡ w
  pub short : w < length bs

module _ (at : ℕ) (bs : List ℕ) where
  pub whole_command : (m : Command) (w : ℕ) → Ok (m, w) ≡ command_read at bs → Whole bs m w
  whole_command m w e = by (op_of (get_or bs 0 0)) refl e
    where
      there : (op : Op) → op_of (get_or bs 0 0) ≡ Some op → (b : Bool) → ltb (operand_bytes op bs) (length bs) ≡ b → Ok (m, w) ≡ command_read_if at op (operand_bytes op bs) (cond b (Some (command_of op bs)) None) → Whole bs m w
      there op f true t e =
          let p : ◌≡◌ {A = Command × ℕ} (m, w) (command_of op bs, operand_bytes op bs) = cc in
          let c : command_of op bs ≡ m = sym (ap (λ (q : Command × ℕ). q.0) p) in
          let n : operand_bytes op bs ≡ w = sym (ap (λ (q : Command × ℕ). q.1) p) in
          let h = ltb-true (operand_bytes op bs) (length bs) t in
          record {
            op = op;
            first = f;
            at = ap (λ (b : Bool). cond b (Some (command_of op bs)) None) t ∙ ap (λ (x : Command). Some x) c;
            width = n;
            short = omega arith;
          }
      there op f false t e = absurd cc

      by : (o : Option Op) → op_of (get_or bs 0 0) ≡ o → Ok (m, w) ≡ command_read_of at o bs → Whole bs m w
      by None f e = absurd cc
      by (Some op) f e = there op f (ltb (operand_bytes op bs) (length bs)) refl e

  -- a line inside a curve
  pub inside_line : (k : ℕ) (m : Command) (l : CodeLine) (w : ℕ) → Ok (m, w) ≡ command_read at bs → m ≡ Line l → (inside k bs ≡ line_by (fault k l) l w) × (w < length bs)
  inside_line k m l w e s =
      let h = subst (λ (x : Command). Whole bs x w) s (whole_command m w e) in
      (ap (λ (o : Option Op). inside_of k o bs) h.first ∙ (λ i. inside_if k h.op (h.width i) (h.at i)), h.short)

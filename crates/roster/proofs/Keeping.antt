-- A queue goes on holding its expectations where every record keeps its entry and its note of this queue.
use Rattle.std.proofs.Common.{◌≡◌, ℕ, ◌<◌, ◌≤◌, Bool, List, map, length, get_or, set, Some, Option, sym, ap, ◌∙◌, ⊎_elim, arith}
use Rattle.std.proofs.lemmas.List.{get_or-map, get_or_past, length-map}
use Rattle.std.proofs.lemmas.Bool.{cases_lt}
use Rattle.queue.specs.Entries.{entry_at}
use Rattle.queue.specs.Notes.{IndexedFrame}
use Rattle.queue.proofs.Parts.{part_set, part_kept_indexed, notes_right_kept}
use Rattle.queue.proofs.Rules.{rule_kept}
use Rattle.roster.specs.Holds.{Holds}

-- a part that every record keeps, record by record
pub kept_part : {R X : Type 0} (part : R → X) (xs ys : List R) → length ys ≡ length xs → map part ys ≡ map part xs → (r : R) (a : ℕ) → part (get_or ys a r) ≡ part (get_or xs a r)
kept_part part xs ys long same r a = ⊎_elim
    (λ l.
    let l' : a < length ys = omega arith in
    sym (get_or-map part ys a r (part r) l') ∙ ap (λ zs. get_or zs a (part r)) same ∙ get_or-map part xs a r (part r) l)
    (λ past.
    let past' : length ys ≤ a = omega arith in
    ap part (get_or_past ys a r past' ∙ sym (get_or_past xs a r past)))
    (cases_lt a (length xs))

module _ {R E : Type 0} (le : E → E → Bool) (home : E → ℕ) (get : R → E) (note : R → ℕ) {x : ℕ → Option E} {n : ℕ} {xs : List R} (H : Holds le home get note x n xs) where
  -- every record keeps its entry and its note
  pub holds_kept : {ys : List R} → map get ys ≡ map get xs → map note ys ≡ map note xs → Holds le home get note x n ys
  holds_kept {ys} same same-notes = record {
    rule = rule_kept le get n xs ys long same H.rule;
    notes = notes_right_kept get n xs ys same home note long noted H.notes;
    right = λ d i l. ap (λ e. x (home e)) (at d i) ∙ H.right d i l ∙ ap Some (sym (at d i));
    all = λ h e is.
        let P = H.all h e is in
        record {
          within = omega (arith, P.within, long);
          used = λ r. omega (arith, P.used r, noted r h);
          names = λ d r. ap home (at d _) ∙ ap (λ (i : ℕ). home (entry_at get xs d i)) (noted r h) ∙ P.names d r;
        };
  }
    where
      long : length ys ≡ length xs
      long = sym (length-map ys get) ∙ ap length same ∙ length-map xs get

      noted : (r : R) (a : ℕ) → note (get_or ys a r) ≡ note (get_or xs a r)
      noted = kept_part note xs ys long same-notes

      at : (d : E) (i : ℕ) → entry_at get ys d i ≡ entry_at get xs d i
      at d i = ap (λ es. get_or es i d) same

  -- a call of another indexed queue, whose entry and note lie apart from those of this queue
  pub holds_beside : {F : Type 0} {home' : F → ℕ} {get' : R → F} {put' : R → F → R} {note' : R → ℕ} {jot' : R → ℕ → R} {k : ℕ} {ys : List R}
      → IndexedFrame home' get' put' note' jot' k xs ys
      → ((r : R) (e : F) → get (put' r e) ≡ get r) → ((r : R) (m : ℕ) → get (jot' r m) ≡ get r)
      → ((r : R) (e : F) → note (put' r e) ≡ note r) → ((r : R) (m : ℕ) → note (jot' r m) ≡ note r)
      → Holds le home get note x n ys
  holds_beside {F} {home'} {get'} {put'} {note'} {jot'} {k} {ys} frame a b c d = holds_kept
      (part_kept_indexed get home' get' put' note' jot' k xs ys frame a b)
      (part_kept_indexed note home' get' put' note' jot' k xs ys frame c d)

  -- a write of one record that keeps its entry and its note
  pub holds_set : (a : ℕ) (r r' : R) → get r' ≡ get (get_or xs a r) → note r' ≡ note (get_or xs a r) → Holds le home get note x n (set xs a r')
  holds_set a r r' e m = holds_kept (part_set get xs a r r' e) (part_set note xs a r r' m)

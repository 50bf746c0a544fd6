-- Notes are written one by one along a path.
use Rattle.std.proofs.Common.{◌≡◌, ℕ, ◌<◌, ◌≢◌, List, length, get_or, set, sym, refl, ap, ◌∙◌, ⊎_elim, arith, length-set, get_or-set_other, get_or-set_same}
use lib.Seq.{map-set_same}
use Rattle.std.proofs.lemmas.List.{get_or_default}
use Rattle.std.proofs.lemmas.Bool.{cases_eq}
use Rattle.queue.specs.Entries.{entry_at}
use Rattle.queue.specs.Lens.{Lens, Apart}
use Rattle.queue.specs.Noting.{NoteWritten, Noted}
use Rattle.queue.specs.Path.{OnPath}
use Rattle.queue.proofs.Paths.{on_path_le}

module _ {R E : Type 0} (home : E → ℕ) (get : R → E) (put : R → E → R) (note : R → ℕ) (jot : R → ℕ → R) (jots : Lens note jot) (apart : Apart get put note jot) where
  -- one note is written
  pub note_written : (xs : List R) (i x : ℕ) (e : E) (r r' : R) → x < length xs → ((d : E) → entry_at get xs d i ≡ e) → x ≡ home e → r' ≡ jot (get_or xs x r) i
      → NoteWritten home get note jot i xs (set xs x r')
  note_written xs i x e r r' l ise hx w =
      let wrote : note r' ≡ i = ap note w ∙ jots.put_get (get_or xs x r) i in
      let at_home : (d : E) → home (entry_at get xs d i) ≡ x = λ d. ap home (ise d) ∙ sym hx in
      record {
        same_length = length-set xs x r';
        same_entries = map-set_same get xs x r' r (ap get w ∙ apart.left (get_or xs x r) i);
        only_note = λ q a. ⊎_elim
            (λ eq.
            let s : get_or (set xs x r') a q ≡ r' = ap (λ (k : ℕ). get_or (set xs x r') k q) eq ∙ get_or-set_same xs x r' q l in
            let t : get_or xs a q ≡ get_or xs x r = ap (λ (k : ℕ). get_or xs k q) eq ∙ get_or_default xs x q r l in
            s ∙ w ∙ ap (λ (z : R). jot z i) (sym t) ∙ ap (jot (get_or xs a q)) (sym wrote ∙ ap note (sym s)))
            (λ ne. let o = get_or-set_other xs x a r' q ne in rw o (sym (jots.get_put (get_or xs a q))))
            (cases_eq a x);
        there = λ d q. ap (λ (k : ℕ). note (get_or (set xs x r') k q)) (at_home d) ∙ ap note (get_or-set_same xs x r' q l) ∙ wrote;
        others = λ d q a ne. get_or-set_other xs x a r' q (λ eq. ne (at_home d ∙ sym eq));
      }

  pub noted_none : (k : ℕ) (xs : List R) → Noted home get note jot (λ i. OnPath i k) k xs xs
  noted_none k xs = record {
    same_length = refl;
    same_entries = refl;
    only_note = λ r a. sym (jots.get_put (get_or xs a r));
    others = λ r a H. refl;
    right = λ n l own pre i li nl. pre i li nl;
  }

  -- one more note, that of slot c
  pub noted_more : (left left' : ℕ → Type 0) (k c : ℕ) (xs ys zs : List R)
      → Noted home get note jot left k xs ys → OnPath c k → NoteWritten home get note jot c ys zs
      → ((i : ℕ) → (left' i → ⊥) → i ≢ c → left i → ⊥) → Noted home get note jot left' k xs zs
  noted_more left left' k c xs ys zs N p W sub =
      let same : (d : E) → home (entry_at get xs d c) ≡ home (entry_at get ys d c) = λ d. ap (λ (es : List E). home (lib.ListN.get_or es c d)) (sym N.same_entries) in
      record {
        same_length = W.same_length ∙ N.same_length;
        same_entries = W.same_entries ∙ N.same_entries;
        only_note = λ r a.
            W.only_note r a ∙ ap (λ (z : R). jot z (note (get_or zs a r))) (N.only_note r a) ∙ jots.put_put (get_or xs a r) (note (get_or ys a r)) (note (get_or zs a r));
        others = λ r a H. W.others (get r) r a (λ eq. H (get r) c p (same (get r) ∙ eq)) ∙ N.others r a H;
        right = λ n l own pre i li nl d r. ⊎_elim
            (λ eq. ap (λ (j : ℕ). note (get_or zs j r)) (ap (λ (j : ℕ). home (entry_at get xs d j)) eq ∙ same d) ∙ W.there d r ∙ sym eq)
            (λ ne.
            ap note (W.others d r (home (entry_at get xs d i)) (λ eq. ne (own d i c li (omega (arith, on_path_le p)) (sym (same d ∙ eq)))))
            ∙ N.right n l own pre i li (sub i nl ne) d r)
            (cases_eq i c);
      }

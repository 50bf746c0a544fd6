-- A queue call, and then the notes along its path: the notes are right again.
use Rattle.std.proofs.Common.{◌≡◌, ℕ, ◌<◌, ◌≤◌, List, length, get_or, sym, ap, ◌∙◌, arith}
use Rattle.queue.specs.Entries.{entries, entry_at}
use Rattle.queue.specs.Frame.{Frame}
use Rattle.queue.specs.Lens.{Lens, Apart}
use Rattle.queue.specs.Notes.{NotesRight, IndexedFrame}
use Rattle.queue.specs.Noting.{NoteRight, Noted}
use Rattle.queue.specs.Path.{OnPath}
use Rattle.queue.proofs.Homes.{Homes, within_slots, own_slots}
use Rattle.queue.proofs.Parts.{same_part}

module _ {R E : Type 0} (home : E → ℕ) (get : R → E) (put : R → E → R) (note : R → ℕ) (jot : R → ℕ → R) (jots : Lens note jot) (apart : Apart get put note jot) where
  module _ (k : ℕ) (xs ys zs : List R) (F : Frame get put k xs ys) (N : Noted home get note jot (λ _. ⊥) k ys zs) where
    noted_entry : (d : E) (i : ℕ) → entry_at get zs d i ≡ entry_at get ys d i
    noted_entry d i = ap (λ (es : List E). lib.ListN.get_or es i d) N.same_entries

    off_path_entry : (d : E) (i : ℕ) → (OnPath i k → ⊥) → entry_at get ys d i ≡ entry_at get xs d i
    off_path_entry d i np = same_part get xs ys i F.same_length (λ r. ap get (F.off_path r i np)) d

    pub indexed_frame : IndexedFrame home get put note jot k xs zs
    indexed_frame = record {
      same_length = N.same_length ∙ F.same_length;
      off_path = λ d a np. noted_entry d a ∙ off_path_entry d a np;
      only_queue = λ r a.
          let m : ℕ = note (get_or zs a r) in
          let kept : get (get_or zs a r) ≡ get (get_or ys a r) = ap get (N.only_note r a) ∙ apart.left (get_or ys a r) m in
          N.only_note r a ∙ ap (λ (z : R). jot z m) (F.only_entry r a ∙ ap (put (get_or xs a r)) (sym kept));
      whole = λ r a np away. N.others r a (λ d i p eq. away d i p (ap home (noted_entry d i) ∙ eq)) ∙ F.off_path r a np;
    }

    pub notes_kept : (n n' : ℕ) → NotesRight home get note n xs → n' ≤ length xs → Homes home (length xs) (entries get n' ys)
        → (0 < n' → k < n') → ((i : ℕ) → i < n' → (OnPath i k → ⊥) → i < n) → NotesRight home get note n' zs
    notes_kept n n' right ln homes deep old d r i l =
        let long : length ys ≡ length xs = F.same_length in
        let long' : length zs ≡ length ys = N.same_length in
        let l0 : n' ≤ length ys = omega arith in
        let at : home (entry_at get zs d i) ≡ home (entry_at get ys d i) = ap home (noted_entry d i) in
        let inside : home (entry_at get ys d i) < length xs = within_slots home get n' (length xs) ys l0 homes d i l in
        let before : (j : ℕ) → j < n' → (OnPath j k → ⊥) → NoteRight home get note ys ys j
        = λ j lj np d' r'.
        let same : home (entry_at get ys d' j) ≡ home (entry_at get xs d' j) = ap home (off_path_entry d' j np) in
        ap note (F.only_entry r' (home (entry_at get ys d' j))) ∙ apart.right _ _ ∙ ap (λ (x : ℕ). note (get_or xs x r')) same ∙ (right d' r' j (old j lj np)).1 in
        (omega arith, ap (λ (x : ℕ). note (get_or zs x r)) at ∙ N.right n' (deep (omega arith)) (own_slots home get n' (length xs) ys l0 homes) before i l (λ b. b) d r)

-- What single steps of reading take, and what they read again.
use Rattle.std.proofs.Common.{◌≡◌, ◌∙◌, ℕ, Bool, true, false, ◌&&◌, cond, List, ◌∷◌, ◌++◌, Result, Ok, Err, refl, ap, subst, inl, inr}
use Rattle.std.specs.Prelude.{codes}
use Rattle.std.specs.Str.{bytes_eq}
use Rattle.std.proofs.lemmas.Bool.{and_parts}
use Rattle.std.proofs.lemmas.Slice.Eq.{bytes_eq-Decides}
use Rattle.txn_programs.specs.Names.{is_name}
use Rattle.text_words.specs.Bytes.{is_int}
use Rattle.text_words.specs.declared.fault.ReadFault.{ReadFault}
use Rattle.text_words.specs.declared.fault.ReadFault.TheVariants.{Shape}
use Rattle.text_words.proofs.Steps.{bind_ok, done, ok_is, chosen}
use Rattle.text_line_reader.specs.Words.{is_number, first_word, name_in, int_in, number_in, after_word}
use Rattle.text_line_reader.specs.ReportRaw.{Variable, Ending, Returned, Threw, Overflow, DivideByZero, Outside, Broke, Entry, Task, variable_words, ending_words, entry_words, task_words, number_words, IsVariable, IsEnding, IsEntry, IsTask}
use Rattle.text_line_reader.specs.ReportReading.{variable_in, valued_in, broke_in, worded_in, ending_in, entry_in, task_in, numbered_in}
use Rattle.text_line_reader.proofs.Parting.{lacks}
use Rattle.text_line_reader.proofs.Numbers.{name_lacks, int_lacks, number_lacks}
use Rattle.text_line_reader.proofs.Steps.{word_takes, word_again, name_takes, int_takes, number_takes, name_again, int_again, number_again, after_takes, after_again, Takes}
pub use Rattle.text_line_reader.proofs.Steps.{text_of}

-- ---- lines

pub variable_takes : (text : List ℕ) (v : Variable) → variable_in text ≡ Ok v → Takes variable_words IsVariable text v
unfolding variable_in
variable_takes text v e =
    let a = bind_ok (first_word text) _ v e in
    let b = bind_ok (first_word a.0.1) _ v a.2 in
    let c = bind_ok (name_in a.0.0) _ v b.2 in
    let d = bind_ok (int_in b.0.0) _ v c.2 in
    let f = bind_ok (number_in b.0.1) _ v d.2 in
    let n = name_takes a.0.0 c.0 c.1 in
    let i = int_takes b.0.0 d.0 d.1 in
    let m = number_takes b.0.1 f.0 f.1 in
    let made : Variable = record { name = c.0; value = d.0; version = f.0 } in
    subst (Takes variable_words IsVariable text) (ok_is made v f.2) (record {
      same = word_takes text a.0 a.1 ∙ ap (λ (t : List ℕ). a.0.0 ++ 32 ∷ t) (word_takes a.0.1 b.0 b.1)
          ∙ ap (λ (w : List ℕ). w ++ 32 ∷ (b.0.0 ++ 32 ∷ b.0.1)) n.same
          ∙ ap (λ (w : List ℕ). c.0 ++ 32 ∷ (w ++ 32 ∷ b.0.1)) i.same
          ∙ ap (λ (w : List ℕ). c.0 ++ 32 ∷ (d.0 ++ 32 ∷ w)) m.same;
      is = record { name = n.passes; value = i.passes; version = m.passes };
    })

pub variable_again : (v : Variable) → IsVariable v → variable_in (text_of (variable_words v)) ≡ Ok v
unfolding variable_in
variable_again v h =
    rw (
      word_again v.name (v.value ++ 32 ∷ v.version) (name_lacks 32 refl v.name h.name),
      word_again v.value v.version (int_lacks 32 refl v.value h.value),
      name_again v.name h.name,
      int_again v.value h.value,
      number_again v.version h.version,
    ) refl

valued_takes : (cells : Bool) (word text : List ℕ) (x : Ending) → valued_in word text ≡ Ok x → Takes ending_words (IsEnding cells) (word ++ 32 ∷ text) x
unfolding valued_in
valued_takes cells word text x e =
    let b = bind_ok (int_in text) _ x e in
    let i = int_takes text b.0 b.1 in
    let front = λ (w : List ℕ). ap (λ (v : List ℕ). w ++ 32 ∷ v) i.same in
    elim (chosen (bytes_eq word (codes "returned")) (done (Returned b.0)) _ (Ok x) b.2) [
      | inl p ↦ subst (Takes ending_words (IsEnding cells) (word ++ 32 ∷ text)) (ok_is (Returned b.0) x p.1) (record {
        same = ap (λ (w : List ℕ). w ++ 32 ∷ text) ((bytes_eq-Decides word (codes "returned")).0 p.0) ∙ front (codes "returned");
        is = i.passes;
      })
      | inr p ↦ elim (chosen (bytes_eq word (codes "threw")) (done (Threw b.0)) (Err Shape) (Ok x) p.1) [
        | inl q ↦ subst (Takes ending_words (IsEnding cells) (word ++ 32 ∷ text)) (ok_is (Threw b.0) x q.1) (record {
          same = ap (λ (w : List ℕ). w ++ 32 ∷ text) ((bytes_eq-Decides word (codes "threw")).0 q.0) ∙ front (codes "threw");
          is = i.passes;
        })
        | inr q ↦ absurd (let h = q.1 in cc)
      ]
    ]

broke_takes : (cells : Bool) (text : List ℕ) (x : Ending) → broke_in text ≡ Ok x → Takes ending_words (IsEnding cells) (codes "broke" ++ 32 ∷ text) x
unfolding broke_in
broke_takes cells text x e =
    let b = bind_ok (name_in text) _ x e in
    let n = name_takes text b.0 b.1 in
    subst (Takes ending_words (IsEnding cells) (codes "broke" ++ 32 ∷ text)) (ok_is (Broke b.0) x b.2) (record {
      same = ap (λ (v : List ℕ). codes "broke" ++ 32 ∷ v) n.same;
      is = n.passes;
    })

worded_takes : (cells : Bool) (text : List ℕ) (x : Ending) → worded_in text ≡ Ok x → Takes ending_words (IsEnding cells) text x
unfolding worded_in
worded_takes cells text x e =
    let a = bind_ok (first_word text) _ x e in
    let same = word_takes text a.0 a.1 in
    elim (chosen (bytes_eq a.0.0 (codes "broke")) (broke_in a.0.1) (valued_in a.0.0 a.0.1) (Ok x) a.2) [
      | inl p ↦
          let b = broke_takes cells a.0.1 x p.1 in
          record { same = same ∙ ap (λ (w : List ℕ). w ++ 32 ∷ a.0.1) ((bytes_eq-Decides a.0.0 (codes "broke")).0 p.0) ∙ b.same; is = b.is }
      | inr p ↦
          let b = valued_takes cells a.0.0 a.0.1 x p.1 in
          record { same = same ∙ b.same; is = b.is }
    ]

pub ending_takes : (cells : Bool) (text : List ℕ) (x : Ending) → ending_in cells text ≡ Ok x → Takes ending_words (IsEnding cells) text x
unfolding ending_in
ending_takes cells text x e =
    elim (chosen (bytes_eq text (codes "overflow")) (done Overflow) _ (Ok x) e) [
      | inl p ↦ subst (Takes ending_words (IsEnding cells) text) (ok_is Overflow x p.1) (record { same = (bytes_eq-Decides text (codes "overflow")).0 p.0; is = tt })
      | inr p ↦ elim (chosen (bytes_eq text (codes "zerodiv")) (done DivideByZero) _ (Ok x) p.1) [
        | inl q ↦ subst (Takes ending_words (IsEnding cells) text) (ok_is DivideByZero x q.1) (record { same = (bytes_eq-Decides text (codes "zerodiv")).0 q.0; is = tt })
        | inr q ↦ elim (chosen (bytes_eq text (codes "outside") && cells) (done Outside) (worded_in text) (Ok x) q.1) [
          | inl s ↦
              let both = and_parts (bytes_eq text (codes "outside")) cells s.0 in
              subst (Takes ending_words (IsEnding cells) text) (ok_is Outside x s.1) (record { same = (bytes_eq-Decides text (codes "outside")).0 both.0; is = both.1 })
          | inr s ↦ worded_takes cells text x s.1
        ]
      ]
    ]

valued_again : (word value : List ℕ) → lacks 32 word ≡ true → bytes_eq word (codes "broke") ≡ false → is_int value ≡ true → worded_in (word ++ 32 ∷ value) ≡ (let r : Result Ending ReadFault = cond (bytes_eq word (codes "returned")) (Ok (Returned value)) (cond (bytes_eq word (codes "threw")) (Ok (Threw value)) (Err Shape)) in r)
unfolding valued_in worded_in
valued_again word value a o b = rw (word_again word value a, o, int_again value b) refl

broke_again : (name : List ℕ) → is_name name ≡ true → worded_in (codes "broke" ++ 32 ∷ name) ≡ Ok (Broke name)
unfolding broke_in worded_in
broke_again name h = rw (word_again (codes "broke") name refl, name_again name h) refl

pub ending_again : (cells : Bool) (x : Ending) → IsEnding cells x → ending_in cells (text_of (ending_words x)) ≡ Ok x
unfolding ending_in
ending_again cells (Returned value) h = valued_again (codes "returned") value refl refl h
ending_again cells (Threw value) h = valued_again (codes "threw") value refl refl h
ending_again cells Overflow h = refl
ending_again cells DivideByZero h = refl
ending_again cells Outside h = rw h refl
ending_again cells (Broke name) h = broke_again name h

pub entry_takes : (cells : Bool) (text : List ℕ) (x : Entry) → entry_in cells text ≡ Ok x → Takes entry_words (IsEntry cells) text x
unfolding entry_in
entry_takes cells text x e =
    let a = bind_ok (after_word (codes "entry") text) _ x e in
    let b = bind_ok (first_word a.0) _ x a.2 in
    let c = bind_ok (first_word b.0.1) _ x b.2 in
    let d = bind_ok (first_word c.0.1) _ x c.2 in
    let f = bind_ok (number_in b.0.0) _ x d.2 in
    let g = bind_ok (number_in c.0.0) _ x f.2 in
    let h = bind_ok (name_in d.0.0) _ x g.2 in
    let k = bind_ok (ending_in cells d.0.1) _ x h.2 in
    let number = number_takes b.0.0 f.0 f.1 in
    let task = number_takes c.0.0 g.0 g.1 in
    let name = name_takes d.0.0 h.0 h.1 in
    let ending = ending_takes cells d.0.1 k.0 k.1 in
    let made : Entry = record { number = f.0; task = g.0; name = h.0; ending = k.0 } in
    subst (Takes entry_words (IsEntry cells) text) (ok_is made x k.2) (record {
      same = after_takes (codes "entry") text a.0 a.1
          ∙ ap (λ (t : List ℕ). codes "entry" ++ 32 ∷ t) (word_takes a.0 b.0 b.1
          ∙ ap (λ (t : List ℕ). b.0.0 ++ 32 ∷ t) (word_takes b.0.1 c.0 c.1
          ∙ ap (λ (t : List ℕ). c.0.0 ++ 32 ∷ t) (word_takes c.0.1 d.0 d.1))
          ∙ ap (λ (w : List ℕ). w ++ 32 ∷ (c.0.0 ++ 32 ∷ (d.0.0 ++ 32 ∷ d.0.1))) number.same
          ∙ ap (λ (w : List ℕ). f.0 ++ 32 ∷ (w ++ 32 ∷ (d.0.0 ++ 32 ∷ d.0.1))) task.same
          ∙ ap (λ (w : List ℕ). f.0 ++ 32 ∷ (g.0 ++ 32 ∷ (w ++ 32 ∷ d.0.1))) name.same
          ∙ ap (λ (w : List ℕ). f.0 ++ 32 ∷ (g.0 ++ 32 ∷ (h.0 ++ 32 ∷ w))) ending.same
          ∙ words f.0 g.0 h.0 k.0);
      is = record { number = number.passes; task = task.passes; name = name.passes; ending = ending.is };
    })
  where
    words : (a b c : List ℕ) (x : Ending) → a ++ 32 ∷ (b ++ 32 ∷ (c ++ 32 ∷ text_of (ending_words x))) ≡ text_of (a ∷ b ∷ c ∷ ending_words x)
    words a b c (Returned value) = refl
    words a b c (Threw value) = refl
    words a b c Overflow = refl
    words a b c DivideByZero = refl
    words a b c Outside = refl
    words a b c (Broke name) = refl

pub entry_text : (e : Entry) → text_of (entry_words e) ≡ codes "entry" ++ 32 ∷ (e.number ++ 32 ∷ (e.task ++ 32 ∷ (e.name ++ 32 ∷ text_of (ending_words e.ending))))
entry_text e = same e.number e.task e.name e.ending
  where
    same : (a b c : List ℕ) (x : Ending) → text_of (codes "entry" ∷ a ∷ b ∷ c ∷ ending_words x) ≡ codes "entry" ++ 32 ∷ (a ++ 32 ∷ (b ++ 32 ∷ (c ++ 32 ∷ text_of (ending_words x))))
    same a b c (Returned value) = refl
    same a b c (Threw value) = refl
    same a b c Overflow = refl
    same a b c DivideByZero = refl
    same a b c Outside = refl
    same a b c (Broke name) = refl

entry_read : (cells : Bool) (e : Entry) → IsEntry cells e → entry_in cells (codes "entry" ++ 32 ∷ (e.number ++ 32 ∷ (e.task ++ 32 ∷ (e.name ++ 32 ∷ text_of (ending_words e.ending))))) ≡ Ok e
unfolding entry_in
entry_read cells e h =
    let last = text_of (ending_words e.ending) in
    rw (
      after_again (codes "entry") (e.number ++ 32 ∷ (e.task ++ 32 ∷ (e.name ++ 32 ∷ last))) refl,
      word_again e.number (e.task ++ 32 ∷ (e.name ++ 32 ∷ last)) (number_lacks 32 refl e.number h.number),
      word_again e.task (e.name ++ 32 ∷ last) (number_lacks 32 refl e.task h.task),
      word_again e.name last (name_lacks 32 refl e.name h.name),
      number_again e.number h.number,
      number_again e.task h.task,
      name_again e.name h.name,
      ending_again cells e.ending h.ending,
    ) refl

pub entry_again : (cells : Bool) (e : Entry) → IsEntry cells e → entry_in cells (text_of (entry_words e)) ≡ Ok e
entry_again cells e h = ap (entry_in cells) (entry_text e) ∙ entry_read cells e h

pub task_takes : (wanted text : List ℕ) (x : Task) → task_in wanted text ≡ Ok x → Takes (task_words wanted) IsTask text x
unfolding task_in
task_takes wanted text x e =
    let a = bind_ok (after_word wanted text) _ x e in
    let b = bind_ok (first_word a.0) _ x a.2 in
    let c = bind_ok (number_in b.0.0) _ x b.2 in
    let d = bind_ok (name_in b.0.1) _ x c.2 in
    let task = number_takes b.0.0 c.0 c.1 in
    let name = name_takes b.0.1 d.0 d.1 in
    let made : Task = record { task = c.0; name = d.0 } in
    subst (Takes (task_words wanted) IsTask text) (ok_is made x d.2) (record {
      same = after_takes wanted text a.0 a.1
          ∙ ap (λ (t : List ℕ). wanted ++ 32 ∷ t) (word_takes a.0 b.0 b.1
          ∙ ap (λ (w : List ℕ). w ++ 32 ∷ b.0.1) task.same ∙ ap (λ (w : List ℕ). c.0 ++ 32 ∷ w) name.same);
      is = record { task = task.passes; name = name.passes };
    })

pub task_again : (wanted : List ℕ) (t : Task) → lacks 32 wanted ≡ true → IsTask t → task_in wanted (text_of (task_words wanted t)) ≡ Ok t
unfolding task_in
task_again wanted t w h =
    rw (after_again wanted (t.task ++ 32 ∷ t.name) w, word_again t.task t.name (number_lacks 32 refl t.task h.task), number_again t.task h.task, name_again t.name h.name) refl

pub numbered_takes : (wanted text number : List ℕ) → numbered_in wanted text ≡ Ok number → Takes (number_words wanted) (λ n. is_number n ≡ true) text number
unfolding numbered_in
numbered_takes wanted text number e =
    let a = bind_ok (after_word wanted text) _ number e in
    let n = number_takes a.0 number a.2 in
    record { same = after_takes wanted text a.0 a.1 ∙ ap (λ (t : List ℕ). wanted ++ 32 ∷ t) n.same; is = n.passes }

pub numbered_again : (wanted number : List ℕ) → lacks 32 wanted ≡ true → is_number number ≡ true → numbered_in wanted (text_of (number_words wanted number)) ≡ Ok number
unfolding numbered_in
numbered_again wanted number w h = rw (after_again wanted number w, number_again number h) refl

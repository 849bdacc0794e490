-- The texts of which an outcome is read.
use Rattle.std.proofs.Common.{◌≡◌, ◌≢◌, ◌^◌, Bool, if◌then◌else◌, ℕ, ℤ, pos, negsuc, List, ◌∷◌, ◌++◌, Option, Some, None, Result, Ok, Err, true, false, refl, sym, ◌∙◌, ap, arith, [], IfSome, IfNone, IfOk, OnOk, FitsSigned}
use Rattle.std.specs.Int.{w64}
use Rattle.std.proofs.lemmas.Bool.{lt-ltb}
use Rattle.std.specs.Fmt.{signed_decimal}
use Rattle.txn_programs.specs.Arithmetic.{fits}
use Rattle.txn_programs.specs.Names.{is_name}
use Rattle.text_words.specs.Bytes.{is_int, int_value}
use Rattle.text_words.specs.Numbers.{number_of}
use Rattle.text_words.specs.declared.fault.ReadFault.{ReadFault}
use Rattle.text_words.specs.declared.fault.ReadFault.TheVariants.{Shape, Limit}
use Rattle.text_line_reader.specs.Words.{behind, after_word, given, int_in}
use Rattle.text_line_reader.proofs.Parting.{lacks}
use Rattle.text_line_reader.proofs.Numbers.{int_written, int_printed, printed_value}
use Rattle.text_line_reader.proofs.Steps.{after_takes, after_again}

pub behind_is : (wanted text rest : List ℕ) → behind wanted text ≡ Some rest → text ≡ wanted ++ 32 ∷ rest
unfolding after_word
behind_is wanted text rest e = after_takes wanted text rest (ap given e)

pub behind_not : (wanted text rest : List ℕ) → lacks 32 wanted ≡ true → behind wanted text ≡ None → text ≢ wanted ++ 32 ∷ rest
unfolding after_word
behind_not wanted text rest low e is =
    let again : after_word wanted text ≡ Ok rest = ap (after_word wanted) is ∙ after_again wanted rest low in
    let fails : after_word wanted text ≡ Err Shape = ap given e in
    let bad : (let o : Result (List ℕ) ReadFault = Ok rest in o) ≡ Err Shape = sym again ∙ fails in
    cc

same_rest : (a b c : List ℕ) → a ++ b ≡ a ++ c → b ≡ c
same_rest [] b c e = e
same_rest (x ∷ a) b c e = same_rest a b c (let f : a ++ b ≡ a ++ c = cc in f)

if_some : {X : Type 0} (r : Option X) (P Q : X → Type 0) → ((x : X) → P x → Q x) → IfSome r P → IfSome r Q
if_some None P Q h g = g
if_some (Some x) P Q h g = h x g

if_none : {X : Type 0} (r : Option X) (P Q : Type 0) → (P → Q) → IfNone r P → IfNone r Q
if_none None P Q h g = h g
if_none (Some x) P Q h g = g

pub if_ok : {X E : Type 0} (r : Result X E) (P Q : X → Type 0) → ((x : X) → P x → Q x) → IfOk r P → IfOk r Q
if_ok (Ok x) P Q h g = h x g
if_ok (Err e) P Q h g = g

pub on_ok : {X E : Type 0} (r : Result X E) (P Q : Type 0) → (P → Q) → OnOk r P → OnOk r Q
on_ok (Ok x) P Q h g = h g
on_ok (Err e) P Q h g = g

-- a value behind the word
module _ (word text rest : List ℕ) (r : Option ℤ) (is : behind word text ≡ Some rest) where
  pub valued_known : IfSome r (λ v. rest ≡ signed_decimal v) → IfSome r (λ v. text ≡ word ++ 32 ∷ signed_decimal v)
  valued_known h =
      if_some r (λ v. rest ≡ signed_decimal v) (λ v. text ≡ word ++ 32 ∷ signed_decimal v)
      (λ v e. behind_is word text rest is ∙ ap (λ (t : List ℕ). word ++ 32 ∷ t) e) h

  pub valued_unknown : IfNone r ((v : ℤ) → FitsSigned w64 v → rest ≢ signed_decimal v) → IfNone r ((v : ℤ) → FitsSigned w64 v → text ≢ word ++ 32 ∷ signed_decimal v)
  valued_unknown h =
      if_none r ((v : ℤ) → FitsSigned w64 v → rest ≢ signed_decimal v) ((v : ℤ) → FitsSigned w64 v → text ≢ word ++ 32 ∷ signed_decimal v)
      (λ g v low e.
      let same : word ++ 32 ∷ rest ≡ word ++ 32 ∷ signed_decimal v = sym (behind_is word text rest is) ∙ e in
      let tail : 32 ∷ rest ≡ 32 ∷ signed_decimal v = same_rest word (32 ∷ rest) (32 ∷ signed_decimal v) same in
      g v low (let f : rest ≡ signed_decimal v = cc in f))
      h

-- a name behind the word
module _ {N : Type 0} (at : N → List ℕ) (word text rest : List ℕ) (r : Option N) (is : behind word text ≡ Some rest) where
  pub named_known : IfSome r (λ n. rest ≡ at n) → IfSome r (λ n. text ≡ word ++ 32 ∷ at n)
  named_known h =
      if_some r (λ n. rest ≡ at n) (λ n. text ≡ word ++ 32 ∷ at n) (λ n e. behind_is word text rest is ∙ ap (λ (t : List ℕ). word ++ 32 ∷ t) e) h

  pub named_unknown : IfNone r (is_name rest ≡ false) → IfNone r ((name : List ℕ) → is_name name ≡ true → text ≢ word ++ 32 ∷ name)
  named_unknown h =
      if_none r (is_name rest ≡ false) ((name : List ℕ) → is_name name ≡ true → text ≢ word ++ 32 ∷ name)
      (λ g name good e.
      let same : word ++ 32 ∷ rest ≡ word ++ 32 ∷ name = sym (behind_is word text rest is) ∙ e in
      let tail : 32 ∷ rest ≡ 32 ∷ name = same_rest word (32 ∷ rest) (32 ∷ name) same in
      let f : rest ≡ name = cc in
      let bad : true ≡ false = sym good ∙ (ap is_name (sym f) ∙ g) in
      cc)
      h

int_is : (text t : List ℕ) → int_in text ≡ Ok t → (is_int text ≡ true) × (text ≡ t)
unfolding int_in
int_is text t e = by (is_int text) refl e
  where
    by : (b : Bool) → is_int text ≡ b → (if b then Ok text else Err Shape) ≡ Ok t → (is_int text ≡ true) × (text ≡ t)
    by true is f = (is, cc)
    by false is f = absurd (cc)

number_is : (z v : ℤ) → number_of z ≡ Ok v → (fits z ≡ true) × (z ≡ v)
unfolding number_of
number_is z v e = by (fits z) refl e
  where
    by : (b : Bool) → fits z ≡ b → (if b then Ok z else Err Limit) ≡ Ok v → (fits z ≡ true) × (z ≡ v)
    by true is f = (is, cc)
    by false is f = absurd (cc)

fits_is : (z : ℤ) → FitsSigned w64 z → fits z ≡ true
fits_is (pos n) h = lt-ltb n (2 ^ 63) h.sfits
fits_is (negsuc n) h = lt-ltb n (2 ^ 63) (let g = h.sfits in omega arith)

number_good : (v : ℤ) → fits v ≡ true → number_of v ≡ Ok v
unfolding number_of
number_good v e = rw e refl

-- what is read of an integer's text
module _ (text t : List ℕ) (r : Option ℤ) (is : int_in text ≡ Ok t) where
  pub value_known : IfSome r (λ v. number_of (int_value t) ≡ Ok v) → IfSome r (λ v. text ≡ signed_decimal v)
  value_known h =
      if_some r (λ v. number_of (int_value t) ≡ Ok v) (λ v. text ≡ signed_decimal v)
      (λ v e.
      let i = int_is text t is in
      let n = number_is (int_value t) v e in
      let good : is_int t ≡ true = ap is_int (sym i.1) ∙ i.0 in
      i.1 ∙ (sym (int_written t good n.0) ∙ ap signed_decimal n.1))
      h

  pub value_unknown : IfNone r (number_of (int_value t) ≡ Err Limit) → IfNone r ((v : ℤ) → FitsSigned w64 v → text ≢ signed_decimal v)
  value_unknown h =
      if_none r (number_of (int_value t) ≡ Err Limit) ((v : ℤ) → FitsSigned w64 v → text ≢ signed_decimal v)
      (λ g v low e.
      let same : t ≡ signed_decimal v = sym (int_is text t is).1 ∙ e in
      let value : int_value t ≡ v = ap int_value same ∙ printed_value v low in
      let good : number_of (int_value t) ≡ Ok v = ap number_of value ∙ number_good v (fits_is v low) in
      let bad : (let o : Result ℤ ReadFault = Ok v in o) ≡ Err Limit = sym good ∙ g in
      cc)
      h

pub no_value : (text : List ℕ) → int_in text ≡ Err Shape → (v : ℤ) → FitsSigned w64 v → text ≢ signed_decimal v
unfolding int_in
no_value text e v low is =
    let good : is_int text ≡ true = ap is_int is ∙ int_printed v low in
    by (is_int text) good e
  where
    by : (b : Bool) → b ≡ true → (if b then Ok text else Err Shape) ≡ Err Shape → ⊥
    by true h f = cc
    by false h f = cc

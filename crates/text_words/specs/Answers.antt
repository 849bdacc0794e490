-- What a reader answers, and one step of reading behind the other.
use Rattle.std.specs.Prelude.{◌≡◌, Result, Ok, Err}
use Rattle.text_words.specs.declared.fault.ReadFault.{ReadFault}
use Rattle.text_words.specs.declared.fault.ReadFault.TheVariants.{TooLong, BadByte, Shape, Name, Limit, Memory, Broken}

infixl 10 ◌>>=◌
abbrev pub ◌>>=◌ : {A B : Type 0} → Result A ReadFault → (A → Result B ReadFault) → Result B ReadFault
(Ok x) >>= f = f x
(Err e) >>= f = Err e

-- what the code answers, seen by view, is what reading gives, unless memory ran out
abbrev pub Fails : {Y : Type 0} → ReadFault → Result Y ReadFault → Type 0
Fails TooLong read = read ≡ Err TooLong
Fails BadByte read = read ≡ Err BadByte
Fails Shape read = read ≡ Err Shape
Fails Name read = read ≡ Err Name
Fails Limit read = read ≡ Err Limit
Fails Memory read = Unit {0}
Fails Broken read = read ≡ Err Broken

abbrev pub Gives : {X Y : Type 0} → (X → Y) → Result X ReadFault → Result Y ReadFault → Type 0
Gives view (Ok x) read = read ≡ Ok (view x)
Gives view (Err e) read = Fails e read

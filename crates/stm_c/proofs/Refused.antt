-- Out of memory has its number among those of a file that is refused.
use Rattle.std.proofs.Common.{ℕ, List, inl, refl, negsuc}
use Rattle.text_words.specs.declared.fault.ReadFault.TheVariants as refused
use Rattle.stm_c.specs.Files.{IsRefused}

pub want_of_memory : (file : List ℕ) → IsRefused file (negsuc 5)
want_of_memory file = record { fault = refused.Memory; is = inl refl; answered = refl }

-- What is left where a file is read first.
use Rattle.std.proofs.Common.{◌≡◌, inl, inr, ℕ, List, Option, None, Some, refl, sym, ap, subst}
use Rattle.std.specs.Io.KnownBytes.{Keeps}
use Rattle.command_line.specs.declared.answer.Source.{Source}
use Rattle.command_line.specs.declared.answer.Answer.{Answer}
use Rattle.commands.specs.Files.{IsRead, IsReportOf, IsUnread, failed_calls}

-- bytes that stay
pub keeps_same : (bytes : Option (List ℕ)) → Keeps bytes bytes
keeps_same None = tt
keeps_same (Some xs) = refl

-- the bytes of a slice of what was read
pub read_as : (limit : List ℕ → ℕ) (known : Option (List ℕ)) (items bytes : List ℕ) → bytes ≡ items → IsRead limit known items → IsRead limit known bytes
read_as limit known items bytes same is = subst (λ (b : List ℕ). IsRead limit known b) (sym same) is

pub report_as : (known : Option (List ℕ)) (file_items file items bytes : List ℕ) → file ≡ file_items → bytes ≡ items → IsReportOf file_items known items → IsReportOf file known bytes
report_as known file_items file items bytes same_file same is =
    subst (λ (f : List ℕ). IsReportOf f known bytes) (sym same_file) (subst (λ (b : List ℕ). IsReportOf file_items known b) (sym same) is)

-- the same of a report of which nothing is known
pub any_report : (file : List ℕ) (known : Option (List ℕ)) (bytes : List ℕ) → IsReportOf file known bytes → IsReportOf file None bytes
any_report file known bytes is = (is.0, is.1, tt)

-- where nothing was read no call of a sink failed
pub unread_calls : (s : Source) (a : Answer) → IsUnread s a → failed_calls a ≡ 0
unread_calls s a (inl e) = ap failed_calls e
unread_calls s a (inr e) = ap failed_calls e

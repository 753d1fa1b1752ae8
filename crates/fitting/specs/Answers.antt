-- What the code's answer says: how the token stands, or a refusal's number and value.
use Rattle.std.specs.Prelude.{Result, Ok, Err}
use Rattle.book.specs.Book.{Verdict, accepted, refused}
use Rattle.book.specs.Answers.{refusal_of}
use Rattle.fitting.specs.Fitting.{Fit, fits, differs, cut_off}
use Rattle.fitting.specs.declared.stands.Fit.{Fit as Stand}
use Rattle.fitting.specs.declared.stands.Fit.TheVariants.{Fits, Differs, CutOff}
use Rattle.fitting.specs.declared.Refusal.{Refusal}
use Rattle.fitting.specs.declared.Refusal.TheVariants.{Unread, TooLong, NotInBook, BeyondImage}

abbrev pub stand_of : Stand → Fit
stand_of Fits = fits
stand_of (Differs place) = differs place
stand_of CutOff = cut_off

abbrev pub fitting_of : Result Stand Refusal → Verdict Fit
fitting_of (Ok stand) = accepted (stand_of stand)
fitting_of (Err (Unread why)) = refused (refusal_of why).0 (refusal_of why).1
fitting_of (Err (TooLong most)) = refused 8 most
fitting_of (Err NotInBook) = refused 16 0
fitting_of (Err BeyondImage) = refused 17 0

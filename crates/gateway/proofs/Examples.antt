-- Samples: an accepted building and an accepted sweep, refused ones, and refusal 12, after which neither the bytes fetched nor those
-- spared are handed on.
use Rattle.std.specs.Prelude.{◌≡◌, refl}
use Rattle.book.specs.Book.{accepted, refused}
use Rattle.gateway.specs.Numbers.{built_of, swept_of}

built-told : built_of (accepted (record { nodes = 19; shortest = 2; longest = 16 }))
    ≡ record { refusal = 0; value = 0; nodes = 19; shortest = 2; longest = 16 }
built-told = refl

unbuilt-told : built_of (refused 7 21) ≡ record { refusal = 7; value = 21; nodes = 0; shortest = 0; longest = 0 }
unbuilt-told = refl

swept-told : swept_of (accepted 5) 40 6 ≡ record { refusal = 0; value = 0; hits = 5; fetched = 40; spared = 6 }
swept-told = refl

unswept-told : swept_of (refused 4 11) 0 0 ≡ record { refusal = 4; value = 11; hits = 0; fetched = 0; spared = 0 }
unswept-told = refl

too-many-told : swept_of (refused 12 5) 40 6 ≡ record { refusal = 12; value = 5; hits = 0; fetched = 0; spared = 0 }
too-many-told = refl

-- The reading rules over any tree of endings, over the words of the tokens, and a whole sweep; what holds of remembered stretches and
-- of configurations, and what the tokens have to be.
pub mod Lists
pub mod Options
pub mod Words
pub mod Rules
pub mod Tokens
pub mod Sweep
pub mod Stretches
pub mod Configs
pub mod Setting

-- At most one struct for each input; what the calls that solve or run say in the words of C; then from call to call.
pub mod Unique
pub mod Meaning
pub mod Zero
pub mod Chains
pub mod PictureChains

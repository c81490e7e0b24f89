pub mod NodeBoxes
pub mod PictureText
pub mod Pictures
pub mod Neighbourhoods
pub mod PicturesAround
pub mod PictureLaws
pub mod inner
